use Rattle.std.proofs.Common.{◌≡◌, take}
use Rattle.std.specs.List.{fold}
use Rattle.flame_nest.specs.KindTables.{with_name}
use Rattle.flame_nest.proofs.joining.note.Given as goal

abbrev pub invariant-loop-name : goal.invariant-loop-name
invariant-loop-name l = l.there ≡ fold with_name l.fn.there (take l.name-index l.names)
