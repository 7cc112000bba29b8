use Rattle.std.proofs.Common.{◌≡◌, map, drop}
use Rattle.std.specs.List.{flat_map}
use Rattle.flame_spec.specs.CheckFaults.{bodies_faults}
use Rattle.flame_spec.specs.Definitions.{definitions, helpers}
use Rattle.flame_lookup.specs.WordsFound.{definition_found}
use Rattle.flame_check.proofs.walking.clean_bodies.Given as goal

abbrev pub invariant-loop-function : goal.invariant-loop-function
invariant-loop-function l =
    flat_map (bodies_faults l.tables.model (helpers l.tables.model l.tables.units)) (definitions l.tables.units)
    ≡ flat_map (bodies_faults l.tables.model (helpers l.tables.model l.tables.units))
    (map definition_found (drop l.function-index l.all))
