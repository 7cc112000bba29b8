use Rattle.std.proofs.Common.{◌≡◌, ℕ, ◌<◌, ◌≤◌, ◌+◌, Some, length}
use Rattle.std.specs.Prelude.{slice_get}
use Rattle.std.specs.Vec.{vec_len, vec_capacity}
use Rattle.flame_field.specs.declared.gatherings.Gathering.{Gathering}
use Rattle.flame_field.specs.KeptGatherings.{bags_of}
use Rattle.flame_field.specs.KeptPools.{choosing}
use Rattle.flame_field.proofs.pools.make_rooms.Given as goal

abbrev pub invariant-loop-place : goal.invariant-loop-place
invariant-loop-place l = record {
  bags : bags_of l.chosen ≡ bags_of l.fn.chosen;
  count : length l.chosen.items ≡ length l.fn.chosen.items;
  rooms : (k : ℕ) (own : Gathering) → k < l.place → slice_get l.chosen.items k ≡ Some own
      → vec_len own.rows + choosing l.choices k ≤ vec_capacity own.rows;
}
