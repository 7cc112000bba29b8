use Rattle.std.proofs.Common.{take}
use Rattle.std.specs.List.{AllZip}
use Rattle.flame_spec.specs.Functions.{functions}
use Rattle.flame_cond.specs.Said.{IsConditionOf}
use Rattle.flame_program.proofs.reading.conditions_of.Given as goal

abbrev pub invariant-loop-place : goal.invariant-loop-place
invariant-loop-place l =
    AllZip (λ place read. IsConditionOf read place.function.condition place.type l.model.units)
    (take l.place-index (functions l.model)) l.conditions.items
