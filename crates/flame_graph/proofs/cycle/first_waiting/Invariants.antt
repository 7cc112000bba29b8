use Rattle.std.proofs.Common.{◌≡◌, None}
use Rattle.flame_spec.specs.Below.{first_below}
use Rattle.flame_graph.specs.Graph.{waits}
use Rattle.flame_graph.proofs.cycle.first_waiting.Given as goal

abbrev pub invariant-loop-g : goal.invariant-loop-g
invariant-loop-g l = first_below (waits l.waiting) l.g ≡ None
