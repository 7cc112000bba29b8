use Rattle.std.proofs.Common.{◌≡◌, ℕ, ◌+◌, ◌-◌, ◌≤◌, length}
use Rattle.flame_layerrun.specs.Schedules.{ranked_at}
use Rattle.flame_layerrun.proofs.schedules.make_room.Given as goal

abbrev pub invariant-loop-alloc : goal.invariant-loop-alloc
invariant-loop-alloc l = record {
  same : (other : ℕ) → ranked_at l.layers.items other ≡ ranked_at l.fn.layers.items other;
  longer : length l.fn.layers.items ≤ length l.layers.items;
}

abbrev pub decreases-loop-alloc : goal.decreases-loop-alloc
decreases-loop-alloc l = l.layer + 1 - length l.layers.items
