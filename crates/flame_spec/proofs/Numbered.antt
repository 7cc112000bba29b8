-- The first that passes, with its number; the first of lists that are joined.
use Rattle.std.proofs.Common.{◌≡◌, ℕ, suc, ◌+◌, ◌<◌, Bool, true, false, cond, List, [], ◌∷◌, ◌++◌, length, get_or, drop, Option, Some, None, refl, sym, ap, ◌∙◌, subst, arith}
use Rattle.std.specs.Prelude.{slice_get}
use Rattle.std.specs.List.{cons_option}
use Rattle.std.specs.Option.{option_or}
use Rattle.std.proofs.lemmas.List.{at_drop_more}
use Rattle.flame_spec.specs.Lists.{first, numbered_from}

-- what is found stands at its number
pub numbered_from-stands :
    {X : Type 0} (passes : X → Bool) (n : ℕ) (xs : List X) (found : ℕ × X)
    → numbered_from passes n xs ≡ Some found
    → (k : ℕ) × (found.0 ≡ n + k) × (slice_get xs k ≡ Some found.1)
numbered_from-stands passes n [] found h = cc
numbered_from-stands {X} passes n (x ∷ xs) found h = by_test (passes x) h (numbered_from-stands passes (n + 1) xs found)
  where
    by_test :
        (b : Bool)
        → cond b (Some (n, x)) (numbered_from passes (n + 1) xs) ≡ Some found
        → (numbered_from passes (n + 1) xs ≡ Some found
        → (k : ℕ) × (found.0 ≡ (n + 1) + k) × (slice_get xs k ≡ Some found.1))
        → (k : ℕ) × (found.0 ≡ n + k) × (slice_get (x ∷ xs) k ≡ Some found.1)
    by_test true g more =
        let same : (n, x) ≡ found = cc in
        let number : n ≡ found.0 = ap (λ f. f.0) same in
        (0, omega arith, ap (λ f. Some f.1) same)
    by_test false g more = let m = more g in (suc m.0, omega (arith, m.1), m.2)

-- what is found passes
pub numbered_from-passes : {X : Type 0} (p : X → Bool) (i : ℕ) (xs : List X) (found : ℕ × X) → numbered_from p i xs ≡ Some found → p found.1 ≡ true
numbered_from-passes p i [] found at = absurd (cc)
numbered_from-passes {X} p i (x ∷ xs) found at =
    (elim (p x) as (λ t. p x ≡ t → cond t (Some (i, x)) (numbered_from p (i + 1) xs) ≡ Some found → p found.1 ≡ true) [
      | true ↦ λ passes here. let same : (i, x) ≡ found = cc in subst (λ (q : ℕ × X). p q.1 ≡ true) same passes
      | false ↦ λ fails later. numbered_from-passes p (i + 1) xs found later
    ])
    refl at

-- one item more in front
pub numbered_from-before :
    {X : Type 0} (passes : X → Bool) (xs : List X) (i : ℕ) (x : X) (found : Option (ℕ × X))
    → i < length xs
    → x ≡ get_or xs i x
    → found ≡ numbered_from passes (i + 1) (drop (i + 1) xs)
    → cond (passes x) (Some (i, x)) found ≡ numbered_from passes i (drop i xs)
numbered_from-before passes xs i x found h is e =
    ap (cond (passes x) (Some (i, x))) e
    ∙ sym
    (at_drop_more (numbered_from passes i) xs i x h
    ∙ ap (λ y. numbered_from passes i (y ∷ drop (i + 1) xs)) (sym is))

-- ---- the first of all

pub first-append : {X : Type 0} (xs ys : List X) (x : X) → first xs ≡ Some x → first (xs ++ ys) ≡ Some x
first-append [] ys x h = absurd (cc)
first-append (y ∷ xs) ys x h = h

pub first-cons_option : {X : Type 0} (o : Option X) (xs : List X) → first (cons_option o xs) ≡ option_or o (first xs)
first-cons_option None xs = refl
first-cons_option (Some x) xs = refl

pub first-cons_option_nil : {X : Type 0} (o : Option X) → first (cons_option o []) ≡ o
first-cons_option_nil None = refl
first-cons_option_nil (Some x) = refl
