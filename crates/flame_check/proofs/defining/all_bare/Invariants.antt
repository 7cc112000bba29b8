use Rattle.std.proofs.Common.{◌≡◌, map, drop}
use Rattle.std.specs.List.{flat_map}
use Rattle.flame_spec.specs.CheckFaults.{with_parameters_faults}
use Rattle.flame_spec.specs.Definitions.{definitions}
use Rattle.flame_lookup.specs.WordsFound.{definition_found}
use Rattle.flame_check.proofs.defining.all_bare.Given as goal

abbrev pub invariant-loop-function : goal.invariant-loop-function
invariant-loop-function l =
    flat_map (with_parameters_faults l.tables.model) (definitions l.tables.units)
    ≡ flat_map (with_parameters_faults l.tables.model) (map definition_found (drop l.function-index l.all))
