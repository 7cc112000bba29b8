use Rattle.std.proofs.Common.{◌≡◌, length}
use Rattle.flame_graph.specs.Graph.{follows}
use Rattle.flame_depend.specs.Edges.{edges_below}
use Rattle.flame_depend.proofs.pairs.flatten.Given as goal

abbrev pub invariant-loop-i : goal.invariant-loop-i
invariant-loop-i l = l.edges.items ≡ edges_below l.i (length l.lists) (follows l.lists)
