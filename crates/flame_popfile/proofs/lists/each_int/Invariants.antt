-- The members read so far have no fault.
use Rattle.std.proofs.Common.{◌≡◌, map, drop}
use Rattle.serde_json.specs.View.{view}
use Rattle.flame_spec.specs.Lists.{each_from}
use Rattle.flame_spec.specs.Paths.{at_number}
use Rattle.flame_popfile.specs.PopulationParts.{each_member, int_faults}
use Rattle.flame_xmml.specs.ValuePlaces.{path_of}
use Rattle.flame_popfile.proofs.lists.each_int.Given as goal

abbrev pub invariant-loop-number : goal.invariant-loop-number
invariant-loop-number l =
    each_member int_faults (path_of l.place) (map view l.values)
    ≡ each_from
    (λ number value. int_faults (at_number (path_of l.place) number) value)
    l.number
    (map view (drop l.number l.values))
