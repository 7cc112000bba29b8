-- The first place of a list at which a test passes.
use Rattle.std.proofs.Common.{◌≡◌, ℕ, ◌<◌, ◌≤◌, Bool, true, false, cond, List, [], ◌∷◌, length, get_or}
use Rattle.std.proofs.Common.{Some, None, refl, sym, ap, ◌∙◌, arith}
use Rattle.std.specs.Prelude.{nat_lt, slice_get, position}
use Rattle.std.specs.List.{position_or_len}
use Rattle.std.proofs.lemmas.Bool.{lt-ltb, ltb-false}
use Rattle.std.proofs.lemmas.Option.{get_or_from_slice_get, slice_get-get_or, slice_get_within}
use Rattle.std.proofs.lemmas.List.Quantifiers.{position-Some}
use Rattle.std.proofs.lemmas.List.Sums.{position_or_len_is, fails_before_first}

module _ {X : Type 0} (p : X → Bool) where
  -- the first element that passes is the one that is found
  pub position-first : (xs : List X) (i : ℕ) (x : X) → slice_get xs i ≡ Some x → p x ≡ true
      → ((k : ℕ) (y : X) → k < i → slice_get xs k ≡ Some y → p y ≡ false)
      → position p xs ≡ Some i
  position-first xs i x stands holds earlier =
      let within : i < length xs = slice_get_within xs i x stands in
      let here : get_or xs i x ≡ x = get_or_from_slice_get xs i x x stands in
      let found : position_or_len p xs ≡ i =
      position_or_len_is p xs i x (omega arith)
      (λ k h. earlier k (get_or xs k x) h (slice_get-get_or xs k x (omega arith)))
      (λ _. ap p here ∙ holds) in
      ap (λ n. cond (nat_lt n (length xs)) (Some n) None) found
      ∙ ap (λ t. cond t (Some i) None) (lt-ltb i (length xs) within)

  -- where one is found it passes
  pub position-passes : (xs : List X) (i : ℕ) (x : X) → position p xs ≡ Some i → slice_get xs i ≡ Some x → p x ≡ true
  position-passes xs i x found stands =
      sym (ap p (get_or_from_slice_get xs i x x stands)) ∙ (position-Some p xs i x found).1

  -- and none before it does
  pub position-earlier : (xs : List X) (i k : ℕ) (x : X) → position p xs ≡ Some i → k < i → slice_get xs k ≡ Some x
      → p x ≡ false
  position-earlier xs i k x found less stands =
      sym (ap p (get_or_from_slice_get xs k x x stands)) ∙ (position-Some p xs i x found).2 k less

  -- where one is found something stands there
  pub position-stands : (xs : List X) (i : ℕ) → position p xs ≡ Some i → (x : X) × (slice_get xs i ≡ Some x)
  position-stands [] i found = cc
  position-stands (x ∷ xs) i found =
      (get_or (x ∷ xs) i x, slice_get-get_or (x ∷ xs) i x (position-Some p (x ∷ xs) i x found).0)

  -- where none is found none passes
  pub position-None : (xs : List X) (k : ℕ) (x : X) → position p xs ≡ None → slice_get xs k ≡ Some x → p x ≡ false
  position-None xs k x none stands =
      let within : k < length xs = slice_get_within xs k x stands in
      elim (nat_lt (position_or_len p xs) (length xs)) as (λ t. nat_lt (position_or_len p xs) (length xs) ≡ t
      → cond t (Some (position_or_len p xs)) None ≡ None → p x ≡ false) [
        | true ↦ λ e f. cc
        | false ↦ λ e f.
            let beyond : length xs ≤ position_or_len p xs = ltb-false _ _ e in
            sym (ap p (get_or_from_slice_get xs k x x stands)) ∙ fails_before_first p xs k x (omega arith)
      ] refl none
