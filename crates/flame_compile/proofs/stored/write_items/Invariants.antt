use Rattle.std.proofs.Common.{◌≡◌, drop, map}
use Rattle.flame_compile.specs.Pieces.{in_order, written}
use Rattle.flame_compile.specs.Emit.{item}
use Rattle.flame_compile.proofs.stored.write_items.Given as goal

abbrev pub invariant-loop-item : goal.invariant-loop-item
invariant-loop-item l =
    written (in_order (map item (drop l.item-index l.items))) l.out.items
    ≡ written (in_order (map item l.items)) l.fn.out.items
