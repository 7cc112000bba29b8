use Rattle.std.proofs.Common.{◌≡◌, ◌++◌, map, take}
use Rattle.flame_nest.specs.KindTables.{flat_inside}
use Rattle.flame_nest.proofs.fields.Fields.put_inside.Given as goal

abbrev pub invariant-loop-field : goal.invariant-loop-field
invariant-loop-field l =
    l.flat.items ≡ l.fn.flat.items ++ map (flat_inside l.name) (take l.field-index l.field-items)
