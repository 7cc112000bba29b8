-- The promise of this crate: what `evaluate` answers is the outcome that the source means.
use Rattle.std.specs.Prelude.{◌≡◌, ℕ, ℤ, List}
use Rattle.flame_spec.specs.declared.outcomes.Source.{Source}
use Rattle.flame_spec.specs.declared.outcomes.Outcome.{Outcome}
use Rattle.flame_meaning.specs.Outcomes.{outcome}

-- the answer is the outcome of the function over these boards [FLAME User Manual]
abbrev pub IsMeant :
    Source → ℕ → List ℤ → List (List (List ℤ)) → List ℤ → ℤ → ℕ → Outcome → Type 0
IsMeant source function memory boards constants iteration fuel answer =
    answer ≡ outcome source function memory boards constants iteration fuel
