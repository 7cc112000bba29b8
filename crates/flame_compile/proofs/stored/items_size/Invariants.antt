use Rattle.std.proofs.Common.{◌≡◌, ◌+◌, drop, map}
use Rattle.flame_compile.specs.Pieces.{in_order}
use Rattle.flame_compile.specs.Emit.{item}
use Rattle.flame_compile.proofs.stored.items_size.Given as goal

abbrev pub invariant-loop-item : goal.invariant-loop-item
invariant-loop-item l =
    l.size + (in_order (map item (drop l.item-index l.items))).size ≡ (in_order (map item l.items)).size
