use Rattle.std.proofs.Common.{◌≡◌, ℕ, ◌+◌, ◌<◌, length, take, slice_index}
use Rattle.std.specs.Prelude.{◌==◌, ◌&&◌, ◌||◌}
use Rattle.flame_spec.specs.Below.{is_in, times}
use Rattle.flame_graph.proofs.order.settle.Given as goal

abbrev pub invariant-loop-successor : goal.invariant-loop-successor
invariant-loop-successor l = record {
  counts : (g : ℕ) → g < length l.waiting → slice_index l.waiting g + times g (take l.successor-index l.successors) ≡ slice_index l.initial.waiting g;
  ready : (g : ℕ) → is_in g l.ready ≡ (is_in g l.initial.ready || (is_in g (take l.successor-index l.successors) && (slice_index l.waiting g == 0)));
}
