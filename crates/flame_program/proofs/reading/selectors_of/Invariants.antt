use Rattle.std.proofs.Common.{take}
use Rattle.std.specs.List.{AllZip}
use Rattle.flame_spec.specs.Functions.{functions}
use Rattle.flame_program.specs.SourceInputs.{AreSelectorsOf}
use Rattle.flame_program.proofs.reading.selectors_of.Given as goal

abbrev pub invariant-loop-place : goal.invariant-loop-place
invariant-loop-place l =
    AllZip (AreSelectorsOf l.model) (take l.place-index (functions l.model)) l.selectors.items
