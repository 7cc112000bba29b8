-- The members read so far have no fault; the faults of the rest and their values make up those of the list.
use Rattle.std.proofs.Common.{◌≡◌, ◌++◌, map, drop}
use Rattle.serde_json.specs.View.{view}
use Rattle.flame_spec.specs.Lists.{each_from}
use Rattle.flame_spec.specs.Paths.{at_number}
use Rattle.flame_xmml.specs.ValuePlaces.{path_of}
use Rattle.flame_xmml.specs.ValueParts.{each_member}
use Rattle.flame_xmml.proofs.list.each.Given as goal

abbrev pub invariant-loop-number : goal.invariant-loop-number
invariant-loop-number g l = record {
  faults :
      each_member g.M.Member.faults (path_of l.place) (map view l.values)
      ≡ each_from
      (λ number value. g.M.Member.faults (at_number (path_of l.place) number) value)
      l.number
      (map view (drop l.number l.values));
  read :
      l.read.items ++ map g.M.Member.meant (map view (drop l.number l.values))
      ≡ map g.M.Member.meant (map view l.values);
}
