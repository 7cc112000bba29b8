-- Lists through two filters, and up to the place where a test turns.
use Rattle.std.proofs.Common.{◌≡◌, ℕ, ◌≤◌, zero, suc, Bool, true, false, cond, not, ◌&&◌, List, [], ◌∷◌, length, take, drop, refl, sym, ap, ◌∙◌, arith}
use Rattle.std.specs.List.{filter, AllWithin}
use Rattle.std.specs.List.Sorted.{IsPartitionPoint}
use Rattle.flame_rows.proofs.Truths.{and-implied}

module _ {X : Type 0} where
  -- what passes two tests
  pub filter-filter : (p q r : X → Bool) → ((x : X) → (q x && p x) ≡ r x) → (xs : List X) → filter p (filter q xs) ≡ filter r xs
  filter-filter p q r both [] = refl
  filter-filter p q r both (x ∷ xs) =
      let again = filter-filter p q r both xs in
      elim (q x) as (λ t. (t && p x) ≡ r x → filter p (cond t (x ∷ filter q xs) (filter q xs)) ≡ cond (r x) (x ∷ filter r xs) (filter r xs)) [
        | true ↦ λ e. (λ i. cond (e i) (x ∷ again i) (again i))
        | false ↦ λ e. again ∙ ap (λ t. cond t (x ∷ filter r xs) (filter r xs)) e
      ] (both x)

  -- where what passes p passes q
  pub filter-given : (p q : X → Bool) → ((x : X) → p x ≡ true → q x ≡ true) → (xs : List X) → filter p (filter q xs) ≡ filter p xs
  filter-given p q gives = filter-filter p q p (λ x. and-implied (q x) (p x) (gives x))

  module _ (p : X → Bool) where
    filter-none : (xs : List X) → AllWithin (λ x. p x ≡ false) xs 0 (length xs) → filter p xs ≡ []
    filter-none [] none = refl
    filter-none (x ∷ xs) none =
        ap (λ t. cond t (x ∷ filter p xs) (filter p xs)) (none 0 x (omega arith) (omega arith))
        ∙ filter-none xs (λ k d low high. none (suc k) d (omega arith) (omega arith))

    filter-others : (xs : List X) → AllWithin (λ x. p x ≡ false) xs 0 (length xs) → filter (λ x. not (p x)) xs ≡ xs
    filter-others [] none = refl
    filter-others (x ∷ xs) none =
        ap (λ t. cond (not t) (x ∷ filter (λ x. not (p x)) xs) (filter (λ x. not (p x)) xs)) (none 0 x (omega arith) (omega arith))
        ∙ ap (λ rest. x ∷ rest) (filter-others xs (λ k d low high. none (suc k) d (omega arith) (omega arith)))

    -- up to the place where it turns stand all that pass it
    pub take-filter : (xs : List X) (i : ℕ) → i ≤ length xs → IsPartitionPoint (λ x. p x ≡ true) (λ x. p x ≡ false) xs i → take i xs ≡ filter p xs
    take-filter [] zero within turn = refl
    take-filter [] (suc i) within turn = refl
    take-filter (x ∷ xs) zero within turn = sym (filter-none (x ∷ xs) turn.1)
    take-filter (x ∷ xs) (suc i) within turn =
        let first = turn.0 0 x (omega arith) (omega arith) in
        ap (λ rest. x ∷ rest)
        (take-filter xs i (omega (arith, within)) (
          λ k d low high. turn.0 (suc k) d (omega arith) (omega arith),
          λ k d low high. turn.1 (suc k) d (omega arith) (omega arith),
        ))
        ∙ sym (ap (λ t. cond t (x ∷ filter p xs) (filter p xs)) first)

    -- and from there on all others
    pub drop-filter : (xs : List X) (i : ℕ) → i ≤ length xs → IsPartitionPoint (λ x. p x ≡ true) (λ x. p x ≡ false) xs i → drop i xs ≡ filter (λ x. not (p x)) xs
    drop-filter [] zero within turn = refl
    drop-filter [] (suc i) within turn = refl
    drop-filter (x ∷ xs) zero within turn = sym (filter-others (x ∷ xs) turn.1)
    drop-filter (x ∷ xs) (suc i) within turn =
        let first = turn.0 0 x (omega arith) (omega arith) in
        drop-filter xs i (omega (arith, within)) (
          λ k d low high. turn.0 (suc k) d (omega arith) (omega arith),
          λ k d low high. turn.1 (suc k) d (omega arith) (omega arith),
        )
        ∙ sym (ap (λ t. cond (not t) (x ∷ filter (λ x. not (p x)) xs) (filter (λ x. not (p x)) xs)) first)
