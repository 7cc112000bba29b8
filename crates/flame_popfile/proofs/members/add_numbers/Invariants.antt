-- The numbers so far, and those of the values that are left.
use Rattle.std.proofs.Common.{◌≡◌, ◌++◌, map, drop}
use Rattle.serde_json.specs.View.{view}
use Rattle.flame_popfile.specs.PopulationParts.{number_of}
use Rattle.flame_popfile.proofs.members.add_numbers.Given as goal

abbrev pub invariant-loop-value : goal.invariant-loop-value
invariant-loop-value l =
    l.row.items ++ map number_of (map view (drop l.value-index l.values))
    ≡ l.fn.row.items ++ map number_of (map view l.values)
