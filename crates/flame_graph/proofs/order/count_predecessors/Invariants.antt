use Rattle.std.proofs.Common.{[], length}
use Rattle.flame_graph.specs.Graph.{AreWaiting, follows}
use Rattle.flame_graph.proofs.order.count_predecessors.Given as goal

abbrev pub invariant-loop-list : goal.invariant-loop-list
invariant-loop-list l = AreWaiting l.list-index (length l.lists) (follows l.lists) [] l.waiting.items
