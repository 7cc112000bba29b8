-- What stands in lists that are searched, kept or numbered.
use Rattle.std.proofs.Common.{◌≡◌, ℕ, zero, suc, ◌+◌, ◌<◌, List, [], ◌∷◌, ◌++◌, length, refl, sym, ap, ◌∙◌, Bool}
use Rattle.std.proofs.Common.{true, false, ◌||◌, cond, Some, arith}
use Rattle.std.specs.Prelude.{find, slice_get, is_some}
use Rattle.std.specs.List.{filter, flat_map, list_any}
use Rattle.flame_spec.specs.Lists.{numbers_from}

-- it stands in this place of the list, and passes the test
pub record Passes {X : Type 0} (test : X → Bool) (xs : List X) (x : X) : Type 0 where
  pub place : ℕ
  pub there : slice_get xs place ≡ Some x
  pub passes : test x ≡ true

one_more : {X : Type 0} (test : X → Bool) (y : X) (xs : List X) (x : X) → Passes test xs x → Passes test (y ∷ xs) x
one_more test y xs x h = record { place = suc h.place; there = h.there; passes = h.passes }

-- what is found
pub found_passes : {X : Type 0} (test : X → Bool) (xs : List X) (x : X) → find test xs ≡ Some x → Passes test xs x
found_passes test [] x h = absurd (cc)
found_passes {X} test (y ∷ xs) x h = by_test (found_passes test xs x) (test y) refl h
  where
    by_test :
        (find test xs ≡ Some x → Passes test xs x)
        → (b : Bool) → test y ≡ b → cond b (Some y) (find test xs) ≡ Some x → Passes test (y ∷ xs) x
    by_test more true t e =
        let same : y ≡ x = cc in
        record { place = 0; there = e; passes = ap test (sym same) ∙ t }
    by_test more false t e = one_more test y xs x (more e)

-- what is kept
pub kept_passes :
    {X : Type 0} (test : X → Bool) (xs : List X) (i : ℕ) (x : X)
    → slice_get (filter test xs) i ≡ Some x
    → Passes test xs x
kept_passes test [] i x h = absurd (cc)
kept_passes {X} test (y ∷ xs) i x h = by_test (λ j. kept_passes test xs j x) (test y) refl i h
  where
    by_test :
        ((j : ℕ) → slice_get (filter test xs) j ≡ Some x → Passes test xs x)
        → (b : Bool) → test y ≡ b → (j : ℕ)
        → slice_get (cond b (y ∷ filter test xs) (filter test xs)) j ≡ Some x
        → Passes test (y ∷ xs) x
    by_test more true t zero e =
        let same : y ≡ x = cc in
        record { place = 0; there = e; passes = ap test (sym same) ∙ t }
    by_test more true t (suc j) e = one_more test y xs x (more j e)
    by_test more false t j e = one_more test y xs x (more j e)

-- something is found where one passes
pub is_some-find : {X : Type 0} (test : X → Bool) (xs : List X) → is_some (find test xs) ≡ list_any test xs
is_some-find test [] = refl
is_some-find {X} test (x ∷ xs) = by_test (test x) (is_some-find test xs)
  where
    by_test :
        (b : Bool)
        → is_some (find test xs) ≡ list_any test xs
        → is_some (cond b (Some x) (find test xs)) ≡ b || list_any test xs
    by_test true e = refl
    by_test false e = e

-- ---- numbers

-- each number is that of something in the list
pub record Numbers {X : Type 0} (from : ℕ) (xs : List X) (n : ℕ) : Type 0 where
  pub place : ℕ
  pub is : n ≡ from + place
  pub within : place < length xs

pub numbers_within :
    {X : Type 0} (test : X → Bool) (from : ℕ) (xs : List X) (i n : ℕ)
    → slice_get (numbers_from test from xs) i ≡ Some n
    → Numbers from xs n
numbers_within test from [] i n h = absurd (cc)
numbers_within {X} test from (x ∷ xs) i n h = by_test (λ j. numbers_within test (from + 1) xs j n) (test x) i h
  where
    later : Numbers (from + 1) xs n → Numbers from (x ∷ xs) n
    later there =
        record { place = suc there.place; is = omega (arith, there.is); within = omega (arith, there.within) }

    by_test :
        ((j : ℕ) → slice_get (numbers_from test (from + 1) xs) j ≡ Some n → Numbers (from + 1) xs n)
        → (b : Bool) (j : ℕ)
        → slice_get (cond b (from ∷ numbers_from test (from + 1) xs) (numbers_from test (from + 1) xs)) j ≡ Some n
        → Numbers from (x ∷ xs) n
    by_test more true zero e =
        let same : from ≡ n = cc in
        record { place = 0; is = omega (arith, same); within = omega arith }
    by_test more true (suc j) e = later (more j e)
    by_test more false j e = later (more j e)

-- a number from 0 is below the length
pub number_within :
    {X : Type 0} (test : X → Bool) (xs : List X) (i n : ℕ)
    → slice_get (numbers_from test 0 xs) i ≡ Some n
    → n < length xs
number_within test xs i n h =
    let there = numbers_within test 0 xs i n h in
    omega (arith, there.is, there.within)

-- what those give that pass is what their numbers give
pub by_numbers :
    {X Y : Type 0} (test : X → Bool) (gives : X → List Y) (numbered : ℕ → List Y) (from : ℕ) (xs : List X)
    → ((i : ℕ) (x : X) → slice_get xs i ≡ Some x → numbered (from + i) ≡ gives x)
    → flat_map (λ x. cond (test x) (gives x) []) xs ≡ flat_map numbered (numbers_from test from xs)
by_numbers test gives numbered from [] same = refl
by_numbers {X} {Y} test gives numbered from (x ∷ xs) same =
    by_test (test x)
    (by_numbers test gives numbered (from + 1) xs
    (λ i y h. let e : from + 1 + i ≡ from + suc i = omega arith in ap numbered e ∙ same (suc i) y h))
  where
    here : numbered from ≡ gives x
    here = let e : from ≡ from + 0 = omega arith in ap numbered e ∙ same 0 x refl

    by_test :
        (b : Bool)
        → flat_map (λ x. cond (test x) (gives x) []) xs ≡ flat_map numbered (numbers_from test (from + 1) xs)
        → cond b (gives x) [] ++ flat_map (λ x. cond (test x) (gives x) []) xs
        ≡ flat_map numbered (cond b (from ∷ numbers_from test (from + 1) xs) (numbers_from test (from + 1) xs))
    by_test true e =
        ap (λ l. l ++ flat_map (λ x. cond (test x) (gives x) []) xs) (sym here)
        ∙ ap (λ l. numbered from ++ l) e
    by_test false e = e
