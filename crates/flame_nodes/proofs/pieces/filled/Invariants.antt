use Rattle.std.proofs.Common.{◌≡◌, ◌++◌}
use Rattle.std.specs.Vec.Iter.{into_iter_items}
use Rattle.flame_spec.specs.Lists.{each_from}
use Rattle.flame_nodes.specs.NodePieces.{node_pieces, piece_for}
use Rattle.flame_nodes.proofs.pieces.filled.Given as goal

abbrev pub invariant-loop-node : goal.invariant-loop-node
invariant-loop-node l =
    l.pieces.items ++ each_from (piece_for l.function) l.node-iterator.count (into_iter_items l.node-iterator.iter)
    ≡ node_pieces l.function l.fn.bags.items
