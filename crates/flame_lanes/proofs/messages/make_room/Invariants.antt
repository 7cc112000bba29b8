use Rattle.std.proofs.Common.{◌≡◌, ℕ, suc, ◌-◌, Some, length}
use Rattle.std.specs.Prelude.{slice_get}
use Rattle.flame_lanes.proofs.messages.make_room.Given as goal

abbrev pub invariant-loop-places : goal.invariant-loop-places
invariant-loop-places l =
    (other place : ℕ) → slice_get l.fn.places.items other ≡ Some place → slice_get l.places.items other ≡ Some place

abbrev pub decreases-loop-places : goal.decreases-loop-places
decreases-loop-places l = suc l.message - length l.places.items
