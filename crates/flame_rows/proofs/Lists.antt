-- Lists: which are empty, what stands at a place, tests of all or any, one element more.
use Rattle.std.proofs.Common.{◌≡◌, ℕ, zero, suc, ◌+◌, ◌<◌, Bool, true, ◌||◌, List, [], ◌∷◌, ◌++◌, map, length, take, drop, get_or, Option, Some, refl, sym, ap, ap₂, ◌∙◌, subst, arith, append-nil, take_all, ◌⊎◌, inl, inr, option_map, cond, set}
use Rattle.std.specs.Prelude.{slice_get, slice_set, slice_index_or, slice_index}
use Rattle.std.specs.List.{list_any, list_all, filter_map, flat_map, cons_option, AllZip, All, filter, find}
use Rattle.std.specs.Option.{IsSomeAnd}
use Rattle.std.proofs.lemmas.Bool.{and_parts, and_from, or_left, or_right}
use Rattle.std.proofs.lemmas.List.{take_more, drop_all}
use Rattle.std.proofs.lemmas.List.Elements.{filter_map-append, All-cons, All-head, All-tail}
use Rattle.std.proofs.lemmas.Grind.{flat_map-append}
use Rattle.std.proofs.lemmas.Option.{slice_get-map, slice_get_read}
use Rattle.flame_rows.proofs.Truths.{option_map-cond}

-- ---- empty lists

pub append-is_nil_left : {X : Type 0} (xs ys : List X) → xs ++ ys ≡ [] → xs ≡ []
append-is_nil_left [] ys none = refl
append-is_nil_left (x ∷ xs) ys none = cc

pub append-is_nil_right : {X : Type 0} (xs ys : List X) → xs ++ ys ≡ [] → ys ≡ []
append-is_nil_right [] ys none = none
append-is_nil_right (x ∷ xs) ys none = cc

pub append-is_nil : {X : Type 0} (xs ys : List X) → xs ++ ys ≡ [] → (xs ≡ []) × (ys ≡ [])
append-is_nil xs ys none = (append-is_nil_left xs ys none, append-is_nil_right xs ys none)

pub append-nils : {X : Type 0} (xs ys : List X) → xs ≡ [] → ys ≡ [] → xs ++ ys ≡ []
append-nils xs ys first second = ap₂ (λ front rest. front ++ rest) first second

pub cons-parts : {X : Type 0} (x y : X) (xs ys : List X) → x ∷ xs ≡ y ∷ ys → (x ≡ y) × (xs ≡ ys)
cons-parts x y xs ys same = (ap (λ l. get_or l 0 x) same, ap (drop 1) same)

-- ---- what stands at a place

pub slice_get-IsSomeAnd : {X : Type 0} (P : X → Type 0) (xs : List X) (k : ℕ) → IsSomeAnd (slice_get xs k) P → k < length xs
slice_get-IsSomeAnd P [] k some = absurd some
slice_get-IsSomeAnd P (x ∷ xs) zero some = omega arith
slice_get-IsSomeAnd P (x ∷ xs) (suc k) some = omega (arith, slice_get-IsSomeAnd P xs k some)

pub slice_get-slice_set : {X : Type 0} (xs : List X) (i : ℕ) (x y : X) → slice_get xs i ≡ Some y → slice_get (slice_set xs i x) i ≡ Some x
slice_get-slice_set [] i x y e = cc
slice_get-slice_set (z ∷ xs) zero x y e = refl
slice_get-slice_set (z ∷ xs) (suc i) x y e = slice_get-slice_set xs i x y e

pub slice_index_or-map : {X Y : Type 0} (f : X → Y) (d : Y) (xs : List X) (i : ℕ) (x : X)
    → i < length xs → x ≡ get_or xs i x → slice_index_or (map f xs) i d ≡ f x
slice_index_or-map f d [] i x within at = absurd (omega (arith, within))
slice_index_or-map f d (y ∷ xs) zero x within at = ap f (sym at)
slice_index_or-map f d (y ∷ xs) (suc i) x within at = slice_index_or-map f d xs i x (omega (arith, within)) at

-- at each place, and past the end, of a list whose elements are all mapped to one value
pub slice_index_or-map_one : {X Y : Type 0} (y : Y) (xs : List X) (k : ℕ) → slice_index_or (map (λ (x : X). y) xs) k y ≡ y
slice_index_or-map_one y [] k = refl
slice_index_or-map_one y (x ∷ xs) zero = refl
slice_index_or-map_one y (x ∷ xs) (suc k) = slice_index_or-map_one y xs k

pub drop-there : {X : Type 0} (xs : List X) (k : ℕ) (x : X) → slice_get xs k ≡ Some x → drop k xs ≡ x ∷ drop (suc k) xs
drop-there [] k x at = absurd (cc)
drop-there (y ∷ ys) zero x at = let same : y ≡ x = cc in ap (λ z. z ∷ ys) same
drop-there (y ∷ ys) (suc k) x at = drop-there ys k x at

-- the item behind the first list
pub slice_get-behind : {X : Type 0} (xs : List X) (y : X) (ys : List X) → slice_get (xs ++ y ∷ ys) (length xs) ≡ Some y
slice_get-behind [] y ys = refl
slice_get-behind (x ∷ xs) y ys = slice_get-behind xs y ys

pub slice_get-some : {X : Type 0} (xs : List X) (i : ℕ) → i < length xs → (x : X) × (slice_get xs i ≡ Some x)
slice_get-some [] i less = absurd (omega (arith, less))
slice_get-some (x ∷ xs) zero less = (x, refl)
slice_get-some (x ∷ xs) (suc i) less = slice_get-some xs i (omega (arith, less))

pub slice_get-slice_set_cases : {X : Type 0} (xs : List X) (place k : ℕ) (new x : X) → slice_get (slice_set xs place new) k ≡ Some x
    → ((place ≡ k) × (new ≡ x)) ⊎ ((place ≡ k → ⊥) × (slice_get xs k ≡ Some x))
slice_get-slice_set_cases [] place k new x at = absurd (cc)
slice_get-slice_set_cases (y ∷ xs) zero zero new x at = inl (refl, cc)
slice_get-slice_set_cases (y ∷ xs) zero (suc k) new x at = inr ((λ same. omega (arith, same)), at)
slice_get-slice_set_cases (y ∷ xs) (suc place) zero new x at = inr ((λ same. omega (arith, same)), at)
slice_get-slice_set_cases (y ∷ xs) (suc place) (suc k) new x at =
    elim (slice_get-slice_set_cases xs place k new x at) [
      | inl same ↦ inl (ap suc same.0, same.1)
      | inr there ↦ inr ((λ same. there.0 (omega (arith, same))), there.1)
    ]

-- what stands in this place of a list that is seen as another
pub slice_get-map_at :
    {X Y : Type 0} (f : X → Y) (xs : List X) (i : ℕ) (x : X)
    → i < length xs
    → x ≡ get_or xs i x
    → slice_get (map f xs) i ≡ Some (f x)
slice_get-map_at f xs i x h is = slice_get-map f xs i ∙ ap (option_map f) (slice_get_read xs (length xs) i x refl h is)

pub slice_set-read : {X : Type 0} (xs : List X) (k : ℕ) (x d : X) → k < length xs → slice_index_or xs k d ≡ x → slice_set xs k x ≡ xs
slice_set-read [] k x d less at = refl
slice_set-read (y ∷ xs) zero x d less at = ap (λ z. z ∷ xs) (sym at)
slice_set-read (y ∷ xs) (suc k) x d less at = ap (λ l. y ∷ l) (slice_set-read xs k x d (omega (arith, less)) at)

pub slice_index_or-map_slice_set :
    {X Y : Type 0} (g : X → Y) (d : Y) (xs : List X) (i : ℕ) (new : X)
    → i < length xs → slice_index_or (map g (slice_set xs i new)) i d ≡ g new
slice_index_or-map_slice_set g d [] i new within = absurd (omega (arith, within))
slice_index_or-map_slice_set g d (x ∷ xs) zero new within = refl
slice_index_or-map_slice_set g d (x ∷ xs) (suc i) new within = slice_index_or-map_slice_set g d xs i new (omega (arith, within))

pub slice_get-set_same : {X : Type 0} (xs : List X) (place : ℕ) (x : X) → place < length xs → slice_get (set xs place x) place ≡ Some x
slice_get-set_same [] place x less = absurd (omega (arith, less))
slice_get-set_same (z ∷ xs) zero x less = refl
slice_get-set_same (z ∷ xs) (suc place) x less = slice_get-set_same xs place x (omega (arith, less))

-- a number that is there is that at its place
pub slice_index-there : (xs : List ℕ) (h n : ℕ) → slice_get xs h ≡ Some n → slice_index xs h ≡ n
slice_index-there [] h n e = cc
slice_index-there (x ∷ xs) zero n e = cc
slice_index-there (x ∷ xs) (suc h) n e = slice_index-there xs h n e

pub slice_index_or-map_slice_set_other :
    {X Y : Type 0} (g : X → Y) (d : Y) (xs : List X) (i n : ℕ) (new : X)
    → (i ≡ n → ⊥) → slice_index_or (map g (slice_set xs i new)) n d ≡ slice_index_or (map g xs) n d
slice_index_or-map_slice_set_other g d [] i n new other = refl
slice_index_or-map_slice_set_other g d (x ∷ xs) zero zero new other = absurd (other refl)
slice_index_or-map_slice_set_other g d (x ∷ xs) zero (suc n) new other = refl
slice_index_or-map_slice_set_other g d (x ∷ xs) (suc i) zero new other = refl
slice_index_or-map_slice_set_other g d (x ∷ xs) (suc i) (suc n) new other =
    slice_index_or-map_slice_set_other g d xs i n new (λ e. other (ap suc e))

pub slice_get-slice_set_other : {X : Type 0} (xs : List X) (place k : ℕ) (x : X) → (k ≡ place → ⊥) → slice_get (slice_set xs place x) k ≡ slice_get xs k
slice_get-slice_set_other [] place k x other = refl
slice_get-slice_set_other (y ∷ xs) zero zero x other = absurd (other refl)
slice_get-slice_set_other (y ∷ xs) zero (suc k) x other = refl
slice_get-slice_set_other (y ∷ xs) (suc place) zero x other = refl
slice_get-slice_set_other (y ∷ xs) (suc place) (suc k) x other = slice_get-slice_set_other xs place k x (λ same. other (ap suc same))

pub slice_get-set_other : {X : Type 0} (xs : List X) (place other : ℕ) (x : X)
    → (place ≡ other → ⊥) → slice_get (set xs place x) other ≡ slice_get xs other
slice_get-set_other [] place other x apart = refl
slice_get-set_other (z ∷ xs) zero zero x apart = absurd (apart refl)
slice_get-set_other (z ∷ xs) zero (suc other) x apart = refl
slice_get-set_other (z ∷ xs) (suc place) zero x apart = refl
slice_get-set_other (z ∷ xs) (suc place) (suc other) x apart =
    slice_get-set_other xs place other x (λ same. apart (ap suc same))

-- what has been written over a list of the same length
pub take-written : {X : Type 0} (xs ys : List X) (n : ℕ) → length xs ≡ length ys → n ≡ length ys → take n (xs ++ drop (length xs) ys) ≡ xs
take-written xs ys n long all =
    ap (λ rest. take n (xs ++ rest)) (drop_all (length xs) ys (omega (arith, long)))
    ∙ ap (take n) (append-nil xs)
    ∙ take_all n xs (omega (arith, long, all))

-- ---- tests of all or any

pub list_any_map : {X Y : Type 0} (p : Y → Bool) (f : X → Y) (xs : List X) → list_any p (map f xs) ≡ list_any (λ x. p (f x)) xs
list_any_map p f [] = refl
list_any_map p f (x ∷ xs) = ap (λ b. p (f x) || b) (list_any_map p f xs)

pub list_any-at : {X : Type 0} (p : X → Bool) (xs : List X) (k : ℕ) (x : X)
    → slice_get xs k ≡ Some x → p x ≡ true → list_any p xs ≡ true
list_any-at p [] k x at passes = absurd (cc)
list_any-at p (y ∷ xs) zero x at passes =
    let same : y ≡ x = cc in or_left (p y) (list_any p xs) (ap p same ∙ passes)
list_any-at p (y ∷ xs) (suc k) x at passes = or_right (p y) (list_any p xs) (list_any-at p xs k x at passes)

pub list_all-at : {X : Type 0} (p : X → Bool) (xs : List X) (k : ℕ) (x : X)
    → list_all p xs ≡ true → slice_get xs k ≡ Some x → p x ≡ true
list_all-at p [] k x all at = absurd (cc)
list_all-at p (y ∷ xs) zero x all at =
    let same : y ≡ x = cc in subst (λ z. p z ≡ true) same (and_parts (p y) (list_all p xs) all).0
list_all-at p (y ∷ xs) (suc k) x all at = list_all-at p xs k x (and_parts (p y) (list_all p xs) all).1 at

pub list_all-each : {X : Type 0} (p : X → Bool) (xs : List X)
    → ((k : ℕ) (x : X) → slice_get xs k ≡ Some x → p x ≡ true) → list_all p xs ≡ true
list_all-each p [] each = refl
list_all-each p (x ∷ xs) each =
    and_from (p x) (list_all p xs) (each zero x refl) (list_all-each p xs (λ k y at. each (suc k) y at))

pub filter-all : {X : Type 0} (xs : List X) → filter (λ x. true) xs ≡ xs
filter-all [] = refl
filter-all (x ∷ xs) = ap (λ l. x ∷ l) (filter-all xs)

pub find-map :
    {X Y : Type 0} (p : Y → Bool) (f : X → Y) (xs : List X)
    → find p (map f xs) ≡ option_map f (find (λ x. p (f x)) xs)
find-map p f [] = refl
find-map p f (x ∷ xs) =
    ap (λ o. cond (p (f x)) (Some (f x)) o) (find-map p f xs) ∙ option_map-cond f (p (f x)) x (option_map f (find (λ x. p (f x)) xs)) (find (λ x. p (f x)) xs) refl

-- what an item gives, where all of them together give nothing
pub flat_map-none_at :
    {X Y : Type 0} (gives : X → List Y) (xs : List X) (i : ℕ) (x : X)
    → flat_map gives xs ≡ []
    → slice_get xs i ≡ Some x
    → gives x ≡ []
flat_map-none_at gives [] i x none h = absurd (cc)
flat_map-none_at gives (y ∷ xs) zero x none h =
    let same : y ≡ x = cc in
    ap gives (sym same) ∙ append-is_nil_left (gives y) (flat_map gives xs) none
flat_map-none_at gives (y ∷ xs) (suc i) x none h =
    flat_map-none_at gives xs i x (append-is_nil_right (gives y) (flat_map gives xs) none) h

-- nothing follows
pub append-flat_none : {X : Type 0} (rows : List X) (rest : List (List X)) → length rest ≡ 0 → rows ++ flat_map (λ bag. bag) rest ≡ rows
append-flat_none rows [] none = append-nil rows
append-flat_none rows (bag ∷ rest) none = absurd (omega (arith, none))

-- ---- what holds of each of two lists, one behind the other

pub All-left : {X : Type 0} (P : X → Type 0) (xs ys : List X) → All P (xs ++ ys) → All P xs
All-left P [] ys all = λ k d less. absurd (omega (arith, less))
All-left P (x ∷ xs) ys all =
    All-cons P x xs (All-head P x (xs ++ ys) all) (All-left P xs ys (All-tail P x (xs ++ ys) all))

pub All-right : {X : Type 0} (P : X → Type 0) (xs ys : List X) → All P (xs ++ ys) → All P ys
All-right P [] ys all = all
All-right P (x ∷ xs) ys all = All-right P xs ys (All-tail P x (xs ++ ys) all)

-- ---- two lists beside each other

pub AllZip-append : {X Y : Type 0} (R : X → Y → Type 0) (xs : List X) (ys : List Y) (more : List X) (others : List Y)
    → AllZip R xs ys → AllZip R more others → AllZip R (xs ++ more) (ys ++ others)
AllZip-append R [] [] more others all rest = rest
AllZip-append R [] (y ∷ ys) more others all rest = absurd all
AllZip-append R (x ∷ xs) [] more others all rest = absurd all
AllZip-append R (x ∷ xs) (y ∷ ys) more others all rest = (all.0, AllZip-append R xs ys more others all.1 rest)

pub AllZip-at : {X Y : Type 0} (R : X → Y → Type 0) (xs : List X) (ys : List Y) (k : ℕ) (x : X) (y : Y)
    → AllZip R xs ys → slice_get xs k ≡ Some x → slice_get ys k ≡ Some y → R x y
AllZip-at R [] ys k x y all at there = absurd (cc)
AllZip-at R (a ∷ xs) [] k x y all at there = absurd all
AllZip-at R (a ∷ xs) (b ∷ ys) zero x y all at there =
    let one : a ≡ x = cc in
    let two : b ≡ y = cc in
    subst (λ z. R x z) two (subst (λ z. R z b) one all.0)
AllZip-at R (a ∷ xs) (b ∷ ys) (suc k) x y all at there = AllZip-at R xs ys k x y all.1 at there

-- ---- one element more

pub take-next :
    {X : Type 0} (xs : List X) (i : ℕ) (x : X)
    → i < length xs
    → x ≡ get_or xs i x
    → take (i + 1) xs ≡ take i xs ++ x ∷ []
take-next xs i x within is =
    take_more xs i x within ∙ ap (λ v. take i xs ++ v ∷ []) (sym is)

pub filter_map-next : {X Y : Type 0} (f : X → Option Y) (xs : List X) (place : ℕ) (x : X)
    → place < length xs → x ≡ get_or xs place x
    → filter_map f (take (place + 1) xs) ≡ filter_map f (take place xs) ++ cons_option (f x) []
filter_map-next f xs place x within at =
    ap (filter_map f) (take_more xs place x within)
    ∙ ap (λ y. filter_map f (take place xs ++ y ∷ [])) (sym at)
    ∙ filter_map-append f (take place xs) (x ∷ [])

pub flat_map-next : {X Y : Type 0} (f : X → List Y) (xs : List X) (place : ℕ) (x : X)
    → place < length xs → x ≡ get_or xs place x
    → flat_map f (take (place + 1) xs) ≡ flat_map f (take place xs) ++ f x
flat_map-next f xs place x within at =
    ap (flat_map f) (take_more xs place x within)
    ∙ ap (λ y. flat_map f (take place xs ++ y ∷ [])) (sym at)
    ∙ flat_map-append f (take place xs) (x ∷ [])
    ∙ ap (λ ys. flat_map f (take place xs) ++ ys) (append-nil (f x))
