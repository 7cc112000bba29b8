use Rattle.std.proofs.Common.{◌≡◌, drop}
use Rattle.flame_spec.specs.ModelOrder.{least_of}
use Rattle.flame_graph.proofs.cycle.least_in.Given as goal

abbrev pub invariant-loop-number : goal.invariant-loop-number
invariant-loop-number l = least_of l.first l.more ≡ least_of l.least (drop l.number-index l.more)
