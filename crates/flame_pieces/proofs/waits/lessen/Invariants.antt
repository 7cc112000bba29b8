use Rattle.std.proofs.Common.{◌≡◌, ℕ, ◌+◌, slice_index, take}
use Rattle.flame_spec.specs.Below.{times}
use Rattle.flame_pieces.proofs.waits.lessen.Given as goal

abbrev pub invariant-loop-waiter : goal.invariant-loop-waiter
invariant-loop-waiter l =
    (number : ℕ) → slice_index l.counts number + times number (take l.waiter-index l.waiters) ≡ slice_index l.initial.counts number
