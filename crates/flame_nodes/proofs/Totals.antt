-- Sums over numbers that follow each other, and what bags weigh that are numbered so.
use Rattle.std.proofs.Common.{◌≡◌, ℕ, zero, suc, ◌+◌, ◌<◌, ◌≤◌, Bool, true, false, cond, List, [], ◌∷◌, ◌++◌, map, refl, sym, ap, ◌∙◌, arith, inl, inr}
use Rattle.std.specs.Prelude.{ℤ, ◌==◌}
use Rattle.std.specs.List.{flat_map, range_with_len}
use Rattle.std.proofs.lemmas.Bool.{eq-eqb, ne_eqb}
use Rattle.std.proofs.lemmas.Bool.Decides.{eqb_tells}
use Rattle.flame_rows.specs.Bags.{weigh}
use Rattle.flame_rows.proofs.BagLaws.{weigh-append}

abbrev pub Rows : Type 0
Rows = List (List ℤ)

abbrev pub Weight : Type 0
Weight = List ℤ → ℕ

-- of so many numbers, from this one on
abbrev pub total : (ℕ → ℕ) → ℕ → ℕ → ℕ
total f from zero = 0
total f from (suc count) = f from + total f (from + 1) count

pub total-same : (f g : ℕ → ℕ) → ((k : ℕ) → f k ≡ g k) → (from count : ℕ) → total f from count ≡ total g from count
total-same f g same from zero = refl
total-same f g same from (suc count) = λ i. same from i + total-same f g same (from + 1) count i

pub total-add : (f g : ℕ → ℕ) (from count : ℕ) → total (λ k. f k + g k) from count ≡ total f from count + total g from count
total-add f g from zero = refl
total-add f g from (suc count) = omega (arith, total-add f g (from + 1) count)

pub total-none : (from count : ℕ) → total (λ k. 0) from count ≡ 0
total-none from zero = refl
total-none from (suc count) = omega (arith, total-none (from + 1) count)

-- one of them alone counts
one-past : (own weight from count : ℕ) → own < from → total (λ k. cond (own == k) weight 0) from count ≡ 0
one-past own weight from zero less = refl
one-past own weight from (suc count) less =
    let here : cond (own == from) weight 0 ≡ 0 = ap (λ b. cond b weight 0) (ne_eqb own from (λ same. omega (arith, same, less))) in
    omega (arith, here, one-past own weight (from + 1) count (omega (arith, less)))

pub total-one : (own weight from count : ℕ) → from ≤ own → own < from + count → total (λ k. cond (own == k) weight 0) from count ≡ weight
total-one own weight from zero above below = absurd (omega (arith, above, below))
total-one own weight from (suc count) above below = elim (eqb_tells own from) [
  | inl agree ↦
      let here : cond (own == from) weight 0 ≡ weight = ap (λ b. cond b weight 0) agree.0 in
      omega (arith, here, one-past own weight (from + 1) count (omega (arith, agree.1)))
  | inr differ ↦
      let here : cond (own == from) weight 0 ≡ 0 = ap (λ b. cond b weight 0) differ.0 in
      let more : from + 1 ≤ own = omega (arith, above, differ.1) in
      omega (arith, here, total-one own weight (from + 1) count more (omega (arith, below)))
]

-- bags one behind the other
pub weigh-bags : (weight : Weight) (bag : ℕ → Rows) (from count : ℕ)
    → weigh weight (flat_map (λ bag. bag) (map bag (range_with_len from count))) ≡ total (λ k. weigh weight (bag k)) from count
weigh-bags weight bag from zero = refl
weigh-bags weight bag from (suc count) =
    weigh-append weight (bag from) (flat_map (λ bag. bag) (map bag (range_with_len (from + 1) count)))
    ∙ ap (λ n. weigh weight (bag from) + n) (weigh-bags weight bag (from + 1) count)
