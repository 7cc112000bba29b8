use Rattle.std.proofs.Common.{◌≡◌, map, drop}
use Rattle.std.specs.List.{flat_map}
use Rattle.flame_spec.specs.CheckFaults.{missing_faults}
use Rattle.flame_spec.specs.Definitions.{definitions}
use Rattle.flame_spec.specs.Functions.{functions}
use Rattle.flame_lookup.specs.WordsFound.{place_found}
use Rattle.flame_check.proofs.defining.none_missing.Given as goal

abbrev pub invariant-loop-place : goal.invariant-loop-place
invariant-loop-place l =
    flat_map (missing_faults (definitions l.tables.units)) (functions l.tables.model)
    ≡ flat_map (missing_faults (definitions l.tables.units)) (map place_found (drop l.place-index l.places))
