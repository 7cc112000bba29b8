-- The first one that passes.
use Rattle.std.proofs.Common.{ℕ, Bool, ◌+◌, get_or, length, sym, arith, slice_index}
use Rattle.std.specs.Prelude.{nat_lt}
use Rattle.std.proofs.lemmas.Bool.{lt-ltb}
use Rattle.flame_spec.specs.HelperFaults.{deepest_calls}
use Rattle.flame_spec.proofs.FirstBelow.{first_is, none_fails}
use Rattle.flame_calls.proofs.faults.find_deep.Goals as goal

pub returns-then-height-ge64 : goal.returns-then-height-ge64
returns-then-height-ge64 c =
    let heights = c.args.heights.now in
    let h = c.loop-h.h in
    let deep : ℕ → Bool = λ h. nat_lt deepest_calls (slice_index heights h + 1) in
    sym (first_is deep (length heights) h c.loop-h-test.true (lt-ltb 64 (get_or heights h 0 + 1) (omega (arith, c.if-height-ge64.true))) (none_fails deep h c.loop-h.invariant))
