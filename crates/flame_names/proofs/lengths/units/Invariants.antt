use Rattle.std.proofs.Common.{◌≡◌, take, drop}
use Rattle.flame_spec.specs.Lists.{each_from}
use Rattle.flame_spec.specs.Paths.{at_number}
use Rattle.flame_spec.specs.UnitFaults.{unit_faults, units_faults}
use Rattle.flame_names.specs.PlacePaths.{text_of}
use Rattle.flame_names.proofs.Units.{Knows}
use Rattle.flame_names.proofs.lengths.units.Given as goal

abbrev pub invariant-loop-i : goal.invariant-loop-i
invariant-loop-i l = record {
  knows : Knows l.known (take l.i l.units);
  rest :
      units_faults (text_of l.place) l.units
      ≡ each_from
      (λ i unit. unit_faults (take i l.units) (at_number (text_of l.place) i) unit)
      l.i
      (drop l.i l.units);
}
