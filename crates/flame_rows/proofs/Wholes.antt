-- The parts of a bag are together the bag.
use Rattle.std.proofs.Common.{◌≡◌, ℕ, ◌+◌, Bool, true, false, cond, List, [], ◌∷◌, length, refl, ◌∙◌, arith}
use Rattle.std.specs.Prelude.{ℤ, not}
use Rattle.flame_rows.specs.Bags.{merge, weigh}
use Rattle.flame_rows.specs.Parted.{whose}
use Rattle.flame_rows.specs.Laws.{PartsAreWhole}
use Rattle.flame_rows.proofs.BagLaws.{IsAscending-merge, merge_adds_weights, equal_by_weighings}

weigh-whose : (passes : ℕ → Bool) (weight : List ℤ → ℕ) (rows : List (List ℤ)) (choices : List ℕ)
    → length choices ≡ length rows
    → weigh weight (whose passes rows choices) + weigh weight (whose (λ choice. not (passes choice)) rows choices) ≡ weigh weight rows
weigh-whose passes weight [] choices long = refl
weigh-whose passes weight (row ∷ rows) [] long = absurd (omega (arith, long))
weigh-whose passes weight (row ∷ rows) (choice ∷ choices) long =
    let rest = weigh-whose passes weight rows choices (omega (arith, long)) in
    elim (passes choice) as (λ t. weigh weight (cond t (row ∷ whose passes rows choices) (whose passes rows choices))
    + weigh weight (cond (not t) (row ∷ whose (λ c. not (passes c)) rows choices) (whose (λ c. not (passes c)) rows choices))
    ≡ weight row + weigh weight rows) [
      | true ↦ omega (arith, rest)
      | false ↦ omega (arith, rest)
    ]

pub merge-whose : PartsAreWhole
merge-whose passes rows choices up long =
    let takers = whose passes rows choices in
    let others = whose (λ choice. not (passes choice)) rows choices in
    equal_by_weighings (merge takers others) rows (IsAscending-merge takers others) up
    (λ weight. merge_adds_weights weight takers others ∙ weigh-whose passes weight rows choices long)
