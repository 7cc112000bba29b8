-- That numbered bodies do what the named ones do.
use Rattle.std.specs.Prelude.{◌≡◌, ℕ, ℤ, List, [], Some, slice_get}
use Rattle.flame_spec.specs.declared.outcomes.Source.{Source}
use Rattle.flame_spec.specs.CheckFaults.{check_faults}
use Rattle.flame_spec.specs.Functions.{Place, functions}
use Rattle.flame_body.specs.FunctionBodies.{function_body, helper_bodies}
use Rattle.flame_meaning.specs.Outcomes.{outcome_over}
use Rattle.flame_number_laws.specs.NumberedOutcomes.{numbered_outcome}

-- in a source without check faults each function has the outcome of its numbered body with the numbered helpers [own]
abbrev pub OutcomesAreNumbered : Type 0
OutcomesAreNumbered =
    (source : Source) (function : ℕ) (place : Place) (memory : List ℤ) (readings : List (List (List ℤ)))
    (constants : List ℤ) (iteration : ℤ) (fuel : ℕ)
    → check_faults source.model source.units ≡ []
    → slice_get (functions source.model) function ≡ Some place
    → outcome_over source function memory readings constants iteration fuel
    ≡ numbered_outcome
    (helper_bodies source.model source.units)
    (function_body source.model source.units function place)
    memory readings constants iteration fuel
