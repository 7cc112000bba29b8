use Rattle.std.proofs.Common.{◌≡◌, ℕ, ◌<◌, length, take, None, slice_index_or}
use Rattle.flame_spec.specs.Below.{is_in}
use Rattle.flame_graph.specs.Backs.{pointed}
use Rattle.flame_graph.proofs.cycle.point.Given as goal

abbrev pub invariant-loop-successor : goal.invariant-loop-successor
invariant-loop-successor l = (g : ℕ) → g < length l.backs → slice_index_or l.backs g None ≡ pointed l.node (is_in g (take l.successor-index l.successors)) (slice_index_or l.initial.backs g None)
