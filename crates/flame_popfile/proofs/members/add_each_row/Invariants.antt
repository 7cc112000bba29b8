-- The members so far have no fault; the faults of the rest and their rows make up those of the list.
use Rattle.std.proofs.Common.{◌≡◌, ◌++◌, map, drop}
use Rattle.serde_json.specs.View.{view}
use Rattle.flame_spec.specs.Lists.{each_from}
use Rattle.flame_spec.specs.Paths.{at_number}
use Rattle.flame_popfile.specs.PopulationParts.{each_member, ints_faults, numbers_of}
use Rattle.flame_xmml.specs.ValuePlaces.{path_of}
use Rattle.flame_popfile.proofs.members.add_each_row.Given as goal

abbrev pub invariant-loop-number : goal.invariant-loop-number
invariant-loop-number l = record {
  faults :
      each_member (ints_faults l.wide) (path_of l.place) (map view l.values)
      ≡ each_from
      (λ number value. ints_faults l.wide (at_number (path_of l.place) number) value)
      l.number
      (map view (drop l.number l.values));
  read :
      l.rows.items ++ map (numbers_of l.wide) (map view (drop l.number l.values))
      ≡ l.fn.rows.items ++ map (numbers_of l.wide) (map view l.values);
}
