-- The entries so far have no fault; those that are left have the faults of all.
use Rattle.std.proofs.Common.{◌≡◌}
use Rattle.std.specs.List.{flat_map}
use Rattle.serde_json.specs.View.{members_view}
use Rattle.flame_spec.specs.Paths.{at_key}
use Rattle.flame_popfile.specs.PopulationParts.{entries}
use Rattle.flame_xmml.specs.ValuePlaces.{path_of}
use Rattle.flame_popfile.specs.PopulationTables.{asked_by}
use Rattle.flame_popfile.proofs.entries.each_entry.Given as goal

abbrev pub invariant-loop-key : goal.invariant-loop-key
invariant-loop-key l =
    flat_map
    (λ (key, inside). asked_by l.unknown l.lengths key (at_key (path_of l.place) key) inside)
    (entries (members_view l.map.entries))
    ≡ flat_map
    (λ (key, inside). asked_by l.unknown l.lengths key (at_key (path_of l.place) key) inside)
    (entries (members_view l.key-iterator))
