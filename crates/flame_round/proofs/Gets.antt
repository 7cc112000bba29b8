-- Elements of lists, and of two lists place by place.
use Rattle.std.proofs.Common.{◌≡◌, ℕ, zero, suc, ◌+◌, ◌<◌, Bool, true, false, cond, List, [], ◌∷◌, length, map, Some, refl, sym, ap, ◌∙◌, arith}
use Rattle.std.specs.Prelude.{not, slice_get, slice_index_or}
use Rattle.std.specs.List.{All, position_or_len}
use Rattle.flame_spec.specs.Lists.{numbers_from, numbers_where}

pub record HasAt {X : Type 0} (xs : List X) (k : ℕ) : Type 0 where
  pub item : X
  pub there : slice_get xs k ≡ Some item

pub has-at : {X : Type 0} (xs : List X) (k : ℕ) → k < length xs → HasAt xs k
has-at [] k within = absurd (omega (arith, within))
has-at (x ∷ xs) zero within = record { item = x; there = refl }
has-at (x ∷ xs) (suc k) within =
    let later = has-at xs k (omega (arith, within)) in record { item = later.item; there = later.there }

pub mapped-get : {X Y : Type 0} (f : X → Y) (d : Y) (xs : List X) (k : ℕ) (x : X)
    → slice_get xs k ≡ Some x → slice_index_or (map f xs) k d ≡ f x
mapped-get f d [] k x at = absurd cc
mapped-get f d (y ∷ xs) zero x at = let same : y ≡ x = cc in ap f same
mapped-get f d (y ∷ xs) (suc k) x at = mapped-get f d xs k x at

-- the first that passes does pass
pub position-passes : {X : Type 0} (p : X → Bool) (xs : List X) (x : X)
    → slice_get xs (position_or_len p xs) ≡ Some x → p x ≡ true
position-passes p [] x at = absurd cc
position-passes {X} p (y ∷ xs) x at =
    (elim (p y) as (λ t. p y ≡ t → slice_get (y ∷ xs) (cond (not t) (1 + position_or_len p xs) 0) ≡ Some x → p x ≡ true) [
      | true ↦ λ passes here. let same : y ≡ x = cc in ap p (sym same) ∙ passes
      | false ↦ λ fails later.
          position-passes p xs x
          (ap (slice_get (y ∷ xs)) (let next : suc (position_or_len p xs) ≡ 1 + position_or_len p xs = omega arith in next) ∙ later)
    ])
    refl at

-- the numbers of what passes are numbers of the list
numbers-below : {X : Type 0} (p : X → Bool) (i : ℕ) (xs : List X) (k d : ℕ)
    → k < length (numbers_from p i xs) → slice_index_or (numbers_from p i xs) k d < i + length xs
numbers-below p i [] k d within = absurd (omega (arith, within))
numbers-below {X} p i (x ∷ xs) k d within =
    (elim (p x) as (λ t. k < length (cond t (i ∷ numbers_from p (i + 1) xs) (numbers_from p (i + 1) xs))
    → slice_index_or (cond t (i ∷ numbers_from p (i + 1) xs) (numbers_from p (i + 1) xs)) k d < i + suc (length xs)) [
      | true ↦ at (numbers-below p (i + 1) xs) k
      | false ↦ λ less. omega (arith, numbers-below p (i + 1) xs k d less)
    ])
    within
  where
    at :
        ((k d : ℕ) → k < length (numbers_from p (i + 1) xs) → slice_index_or (numbers_from p (i + 1) xs) k d < (i + 1) + length xs)
        → (k : ℕ) → k < suc (length (numbers_from p (i + 1) xs)) → slice_index_or (i ∷ numbers_from p (i + 1) xs) k d < i + suc (length xs)
    at later zero less = omega arith
    at later (suc k) less = omega (arith, later k d (omega (arith, less)))

pub numbers-in : {X : Type 0} (p : X → Bool) (xs : List X) → All (λ number. number < length xs) (numbers_where p xs)
numbers-in p xs = λ k d less. omega (arith, numbers-below p 0 xs k d less)
