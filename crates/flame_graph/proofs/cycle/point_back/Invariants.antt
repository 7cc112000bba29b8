use Rattle.std.proofs.Common.{length}
use Rattle.flame_graph.specs.Graph.{follows}
use Rattle.flame_graph.specs.Backs.{ArePointing}
use Rattle.flame_graph.proofs.cycle.point_back.Given as goal

abbrev pub invariant-loop-f : goal.invariant-loop-f
invariant-loop-f l = ArePointing l.f (length l.lists) (follows l.lists) l.waiting l.backs.items
