-- What holds of each element of a list, and of two lists place by place.
use Rattle.std.proofs.Common.{◌≡◌, ℕ, zero, suc, Bool, true, false, cond, List, [], ◌∷◌, ◌++◌, map, Option, Some, None, refl, arith, All, subst}
use Rattle.std.specs.Prelude.{slice_get, slice_index_or}
use Rattle.std.specs.List.{filter, filter_map, flat_map, cons_option, AllZip}
use Rattle.flame_meaning.specs.RangeLaws.{Each, IfAny}
use Rattle.flame_world.specs.Fields.{changed}

pub all_each : {X : Type 0} (P : X → Type 0) (xs : List X) → All P xs → Each P xs
all_each P [] all = tt
all_each P (x ∷ xs) all = (all 0 x (omega arith), all_each P xs (λ k d h. all (suc k) d (omega (arith, h))))

pub each_all : {X : Type 0} (P : X → Type 0) (xs : List X) → Each P xs → All P xs
each_all P [] all k d less = absurd (omega (arith, less))
each_all P (x ∷ xs) all zero d less = all.0
each_all P (x ∷ xs) all (suc k) d less = each_all P xs all.1 k d (omega (arith, less))

pub mapped : {X Y : Type 0} (Q : Y → Type 0) (f : X → Y) → ((x : X) → Q (f x)) → (xs : List X) → Each Q (map f xs)
mapped Q f all [] = tt
mapped Q f all (x ∷ xs) = (all x, mapped Q f all xs)

pub each_also : {X : Type 0} (P Q : X → Type 0) → ((x : X) → P x → Q x) → (xs : List X) → Each P xs → Each Q xs
each_also P Q go [] all = tt
each_also P Q go (x ∷ xs) all = (go x all.0, each_also P Q go xs all.1)

pub each_both : {X : Type 0} (P Q R : X → Type 0) → ((x : X) → P x → Q x → R x) → (xs : List X) → Each P xs → Each Q xs → Each R xs
each_both P Q R go [] one two = tt
each_both P Q R go (x ∷ xs) one two = (go x one.0 two.0, each_both P Q R go xs one.1 two.1)

pub if_both : {X : Type 0} (P Q : X → Type 0) (o : Option X) → IfAny P o → IfAny Q o → IfAny (λ x. P x × Q x) o
if_both P Q None one two = tt
if_both P Q (Some x) one two = (one, two)

pub each_append : {X : Type 0} (P : X → Type 0) (xs ys : List X) → Each P xs → Each P ys → Each P (xs ++ ys)
each_append P [] ys one two = two
each_append P (x ∷ xs) ys one two = (one.0, each_append P xs ys one.1 two)

pub each_map : {X Y : Type 0} (P : X → Type 0) (Q : Y → Type 0) (f : X → Y) → ((x : X) → P x → Q (f x)) → (xs : List X) → Each P xs → Each Q (map f xs)
each_map P Q f go [] all = tt
each_map P Q f go (x ∷ xs) all = (go x all.0, each_map P Q f go xs all.1)

-- what passes has passed
pub each_passing : {X : Type 0} (P Q : X → Type 0) (p : X → Bool) → ((x : X) → p x ≡ true → P x → Q x) → (xs : List X) → Each P xs → Each Q (filter p xs)
each_passing P Q p go [] all = tt
each_passing P Q p go (x ∷ xs) all =
    (elim (p x) as (λ t. p x ≡ t → Each Q (cond t (x ∷ filter p xs) (filter p xs))) [
      | true ↦ λ passes. (go x passes all.0, each_passing P Q p go xs all.1)
      | false ↦ λ fails. each_passing P Q p go xs all.1
    ])
    refl

each_cons : {Y : Type 0} (Q : Y → Type 0) (o : Option Y) (ys : List Y) → IfAny Q o → Each Q ys → Each Q (cons_option o ys)
each_cons Q None ys here rest = rest
each_cons Q (Some y) ys here rest = (here, rest)

pub each_filter_map : {X Y : Type 0} (P : X → Type 0) (Q : Y → Type 0) (f : X → Option Y) → ((x : X) → P x → IfAny Q (f x)) → (xs : List X) → Each P xs → Each Q (filter_map f xs)
each_filter_map P Q f go [] all = tt
each_filter_map P Q f go (x ∷ xs) all = each_cons Q (f x) (filter_map f xs) (go x all.0) (each_filter_map P Q f go xs all.1)

pub each_flat_map : {X Y : Type 0} (P : X → Type 0) (Q : Y → Type 0) (f : X → List Y) → ((x : X) → P x → Each Q (f x)) → (xs : List X) → Each P xs → Each Q (flat_map f xs)
each_flat_map P Q f go [] all = tt
each_flat_map P Q f go (x ∷ xs) all = each_append Q (f x) (flat_map f xs) (go x all.0) (each_flat_map P Q f go xs all.1)

-- ---- two lists

pub zip_at : {X Y : Type 0} (R : X → Y → Type 0) (xs : List X) (ys : List Y) (k : ℕ) (x : X) (d : Y)
    → AllZip R xs ys → slice_get xs k ≡ Some x → R x (slice_index_or ys k d)
zip_at R [] ys k x d all at = absurd cc
zip_at R (here ∷ xs) [] k x d all at = absurd all
zip_at R (here ∷ xs) (y ∷ ys) zero x d all at = let same : here ≡ x = cc in subst (λ z. R z y) same all.0
zip_at R (here ∷ xs) (y ∷ ys) (suc k) x d all at = zip_at R xs ys k x d all.1 at

pub zip_changed : {X Y : Type 0} (R : X → Y → Type 0) (xs : List X) (ys : List Y) (k : ℕ) (f : Y → Y)
    → AllZip R xs ys → ((x : X) (y : Y) → slice_get xs k ≡ Some x → R x y → R x (f y)) → AllZip R xs (changed k f ys)
zip_changed R [] [] k f all go = tt
zip_changed R [] (y ∷ ys) k f all go = absurd all
zip_changed R (x ∷ xs) [] k f all go = absurd all
zip_changed R (x ∷ xs) (y ∷ ys) zero f all go = (go x y refl all.0, all.1)
zip_changed R (x ∷ xs) (y ∷ ys) (suc k) f all go = (all.0, zip_changed R xs ys k f all.1 go)

pub zip_each : {X Y : Type 0} (R : X → Y → Type 0) (Q : Y → Type 0) → ((x : X) (y : Y) → R x y → Q y) → (xs : List X) (ys : List Y) → AllZip R xs ys → Each Q ys
zip_each R Q go [] [] all = tt
zip_each R Q go [] (y ∷ ys) all = absurd all
zip_each R Q go (x ∷ xs) [] all = absurd all
zip_each R Q go (x ∷ xs) (y ∷ ys) all = (go x y all.0, zip_each R Q go xs ys all.1)

pub zip_also : {X Y : Type 0} (R S : X → Y → Type 0) → ((x : X) (y : Y) → R x y → S x y) → (xs : List X) (ys : List Y) → AllZip R xs ys → AllZip S xs ys
zip_also R S go [] [] all = tt
zip_also R S go [] (y ∷ ys) all = absurd all
zip_also R S go (x ∷ xs) [] all = absurd all
zip_also R S go (x ∷ xs) (y ∷ ys) all = (go x y all.0, zip_also R S go xs ys all.1)

pub zip_both : {X Y : Type 0} (Q : Y → Type 0) (R : X → Y → Type 0) (xs : List X) (ys : List Y) → Each Q ys → AllZip R xs ys → AllZip (λ x y. Q y × R x y) xs ys
zip_both Q R [] [] all zipped = tt
zip_both Q R [] (y ∷ ys) all zipped = absurd zipped
zip_both Q R (x ∷ xs) [] all zipped = absurd zipped
zip_both Q R (x ∷ xs) (y ∷ ys) all zipped = ((all.0, zipped.0), zip_both Q R xs ys all.1 zipped.1)

pub each_changed : {X : Type 0} (P : X → Type 0) (k : ℕ) (f : X → X) → ((x : X) → P x → P (f x)) → (xs : List X) → Each P xs → Each P (changed k f xs)
each_changed P k f go [] all = tt
each_changed P zero f go (x ∷ xs) all = (go x all.0, all.1)
each_changed P (suc k) f go (x ∷ xs) all = (all.0, each_changed P k f go xs all.1)
