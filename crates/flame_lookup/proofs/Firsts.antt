-- The first item that passes a test.
use Rattle.std.proofs.Common.{◌≡◌, ℕ, zero, suc, ◌+◌, ◌<◌, ◌≤◌, List, [], ◌∷◌, length, take, get_or, map, reverse, refl, sym, ap, ◌∙◌, Bool, true, false, ◌||◌, cond, Option, Some, None, option_map, arith, nat_lt}
use Rattle.std.specs.Prelude.{find, slice_get, is_some}
use Rattle.std.specs.List.{list_any}
use Rattle.std.specs.Str.{bytes_eq}
use Rattle.std.proofs.lemmas.Bool.Decides.{nat_tests}
use Rattle.std.proofs.lemmas.List.{length-map}
use Rattle.std.proofs.lemmas.List.Sorted.{list_any-IsPermutation, IsPermutation-reverse}
use Rattle.flame_rows.proofs.Bytes.{bytes_eq-sym}
use Rattle.flame_rows.proofs.Lists.{slice_get-map_at}
use Rattle.flame_spec.specs.KnownNames.{is_among}
use Rattle.flame_spec.specs.Lists.{numbered_from}
use Rattle.flame_spec.proofs.Numbered.{numbered_from-stands}

-- the first with its number, and without it
pub find_numbered :
    {X : Type 0} (passes : X → Bool) (i : ℕ) (xs : List X)
    → option_map (λ found. found.1) (numbered_from passes i xs) ≡ find passes xs
find_numbered passes i [] = refl
find_numbered {X} passes i (x ∷ xs) = by_test (passes x) (find_numbered passes (i + 1) xs)
  where
    by_test :
        (b : Bool)
        → option_map (λ found. found.1) (numbered_from passes (i + 1) xs) ≡ find passes xs
        → option_map (λ (found : ℕ × X). found.1) (cond b (Some (i, x)) (numbered_from passes (i + 1) xs))
        ≡ cond b (Some x) (find passes xs)
    by_test true e = refl
    by_test false e = e

-- there is a first one where one passes
pub is_some-numbered :
    {X : Type 0} (passes : X → Bool) (i : ℕ) (xs : List X)
    → is_some (numbered_from passes i xs) ≡ list_any passes xs
is_some-numbered passes i [] = refl
is_some-numbered passes i (x ∷ xs) = by_test (passes x) (is_some-numbered passes (i + 1) xs)
  where
    by_test :
        (b : Bool)
        → is_some (numbered_from passes (i + 1) xs) ≡ list_any passes xs
        → is_some (cond b (Some (i, x)) (numbered_from passes (i + 1) xs)) ≡ b || list_any passes xs
    by_test true e = refl
    by_test false e = e

pub slice_get-numbered :
    {X : Type 0} (passes : X → Bool) (xs : List X) (n : ℕ) (y : X)
    → numbered_from passes 0 xs ≡ Some (n, y)
    → slice_get xs n ≡ Some y
slice_get-numbered passes xs n y h =
    let at = numbered_from-stands passes 0 xs (n, y) h in
    let same : n ≡ at.0 = omega (arith, at.1) in
    ap (slice_get xs) same ∙ at.2

pub seen_as :
    {X Y : Type 0} (f : X → Y) (xs : List X) (ys : List Y) (i : ℕ) (x : X)
    → map f xs ≡ ys
    → i < length ys
    → x ≡ get_or xs i x
    → slice_get ys i ≡ Some (f x)
seen_as f xs ys i x e h is =
    let within : i < length xs = omega (arith, simp length-map at (ap length e)) in
    ap (λ l. slice_get l i) (sym e) ∙ slice_get-map_at f xs i x within is

-- ---- what stands before a number

-- what was found stands below this number
abbrev pub found_below : {X : Type 0} → ℕ → Option (ℕ × X) → Bool
found_below number None = false
found_below number (Some found) = nat_lt found.0 number

not_below :
    {X : Type 0} (passes : X → Bool) (i : ℕ) (xs : List X) (number : ℕ)
    → number ≤ i
    → found_below number (numbered_from passes i xs) ≡ false
not_below passes i [] number h = refl
not_below passes i (x ∷ xs) number h =
    let later : number ≤ i + 1 = omega arith in
    by_test (passes x) (not_below passes (i + 1) xs number later)
  where
    by_test :
        (b : Bool)
        → found_below number (numbered_from passes (i + 1) xs) ≡ false
        → found_below number (cond b (Some (i, x)) (numbered_from passes (i + 1) xs)) ≡ false
    by_test true e = grind (arith, nat_tests)
    by_test false e = e

passed_before :
    {X : Type 0} (passes : X → Bool) (i : ℕ) (xs : List X) (n : ℕ)
    → found_below (i + n) (numbered_from passes i xs) ≡ list_any passes (take n xs)
passed_before passes i [] zero = refl
passed_before passes i [] (suc n) = refl
passed_before passes i (x ∷ xs) zero = not_below passes i (x ∷ xs) (i + 0) (omega arith)
passed_before passes i (x ∷ xs) (suc n) =
    let same : i + suc n ≡ i + 1 + n = omega arith in
    by_test (passes x)
    (ap (λ number. found_below number (numbered_from passes (i + 1) xs)) same ∙ passed_before passes (i + 1) xs n)
  where
    by_test :
        (b : Bool)
        → found_below (i + suc n) (numbered_from passes (i + 1) xs) ≡ list_any passes (take n xs)
        → found_below (i + suc n) (cond b (Some (i, x)) (numbered_from passes (i + 1) xs)) ≡ b || list_any passes (take n xs)
    by_test true e = grind (arith, nat_tests)
    by_test false e = e

pub among_turned : (word : List ℕ) (names : List (List ℕ)) → list_any (λ name. bytes_eq name word) names ≡ is_among word names
among_turned word [] = refl
among_turned word (name ∷ names) =
    ap (λ b. b || list_any (λ name. bytes_eq name word) names) (bytes_eq-sym name word)
    ∙ ap (λ b. bytes_eq word name || b) (among_turned word names)

named_among :
    {X : Type 0} (name : X → List ℕ) (word : List ℕ) (xs : List X)
    → is_among word (map name xs) ≡ list_any (λ x. bytes_eq (name x) word) xs
named_among name word [] = refl
named_among name word (x ∷ xs) =
    ap (λ b. b || is_among word (map name xs)) (bytes_eq-sym word (name x))
    ∙ ap (λ b. bytes_eq (name x) word || b) (named_among name word xs)

-- the first of a name stands below the number where the name is among those before it
pub named_before :
    {X : Type 0} (name : X → List ℕ) (word : List ℕ) (xs : List X) (n : ℕ)
    → found_below n (numbered_from (λ x. bytes_eq (name x) word) 0 xs)
    ≡ is_among word (reverse (map name (take n xs)))
named_before name word xs n =
    let same : 0 + n ≡ n = omega arith in
    ap (λ number. found_below number (numbered_from (λ x. bytes_eq (name x) word) 0 xs)) (sym same)
    ∙ passed_before (λ x. bytes_eq (name x) word) 0 xs n
    ∙ sym
    (sym (list_any-IsPermutation (bytes_eq word) (map name (take n xs)) (reverse (map name (take n xs)))
    (IsPermutation-reverse (map name (take n xs))))
    ∙ named_among name word (take n xs))
