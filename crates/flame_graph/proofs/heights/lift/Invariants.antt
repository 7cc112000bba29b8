use Rattle.std.proofs.Common.{◌≡◌, ℕ, ◌<◌, length, take, slice_index}
use Rattle.flame_spec.specs.Below.{is_in}
use Rattle.flame_graph.specs.Heights.{lifted}
use Rattle.flame_graph.proofs.heights.lift.Given as goal

abbrev pub invariant-loop-successor : goal.invariant-loop-successor
invariant-loop-successor l = (g : ℕ) → g < length l.heights → slice_index l.heights g ≡ lifted l.height (is_in g (take l.successor-index l.successors)) (slice_index l.initial.heights g)
