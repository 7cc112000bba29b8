use Rattle.std.proofs.Common.{◌≡◌, ◌+◌, None, slice_index}
use Rattle.std.specs.Prelude.{nat_lt}
use Rattle.flame_spec.specs.Below.{first_below}
use Rattle.flame_spec.specs.HelperFaults.{deepest_calls}
use Rattle.flame_calls.proofs.faults.find_deep.Given as goal

abbrev pub invariant-loop-h : goal.invariant-loop-h
invariant-loop-h l = first_below (λ h. nat_lt deepest_calls (slice_index l.heights h + 1)) l.h ≡ None
