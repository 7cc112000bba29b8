use Rattle.std.proofs.Common.{◌≡◌, ℕ, ◌+◌, ◌<◌, length, take, slice_index}
use Rattle.flame_spec.specs.Below.{times}
use Rattle.flame_graph.proofs.order.raise.Given as goal

abbrev pub invariant-loop-successor : goal.invariant-loop-successor
invariant-loop-successor l = (g : ℕ) → g < length l.waiting → slice_index l.waiting g ≡ slice_index l.initial.waiting g + times g (take l.successor-index l.successors)
