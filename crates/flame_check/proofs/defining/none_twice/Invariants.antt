use Rattle.std.proofs.Common.{◌≡◌, [], drop}
use Rattle.flame_spec.specs.CheckFaults.{twice_faults}
use Rattle.flame_spec.specs.Definitions.{definitions}
use Rattle.flame_lookup.specs.Sources.{names_before}
use Rattle.flame_check.proofs.defining.none_twice.Given as goal

abbrev pub invariant-loop-i : goal.invariant-loop-i
invariant-loop-i l =
    twice_faults [] (definitions l.tables.units)
    ≡ twice_faults (names_before l.i (definitions l.tables.units)) (drop l.i (definitions l.tables.units))
