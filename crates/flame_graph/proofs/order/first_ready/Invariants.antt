use Rattle.std.proofs.Common.{◌≡◌, ℕ, slice_index}
use Rattle.std.specs.Prelude.{◌==◌, ◌&&◌, nat_lt}
use Rattle.flame_spec.specs.Below.{is_in}
use Rattle.flame_graph.proofs.order.first_ready.Given as goal

abbrev pub invariant-loop-g : goal.invariant-loop-g
invariant-loop-g l = (f : ℕ) → is_in f l.ready ≡ (nat_lt f l.g && (slice_index l.waiting f == 0))
