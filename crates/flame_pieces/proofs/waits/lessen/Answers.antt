use Rattle.std.proofs.Common.{arith}
use Rattle.flame_spec.proofs.TimesLeft.{times-left, times-lessened}
use Rattle.flame_pieces.proofs.waits.lessen.Goals as goal

pub overflow_sub-counts : goal.overflow_sub-counts
overflow_sub-counts c =
    times-left c.args.waiters.now c.loop-waiter.waiter-index _ _ c.loop-waiter-test.true (c.loop-waiter.invariant _) (c.requires.enough _)

pub loop-waiter-preserved : goal.loop-waiter-preserved
loop-waiter-preserved c = λ number.
    times-lessened c.args.waiters.now c.loop-waiter.counts c.args.counts.now c.loop-waiter.waiter-index c.loop-waiter-test.true
    (omega (arith, c.requires.within c.loop-waiter.waiter-index 0 c.loop-waiter-test.true, c.loop-waiter.auto.counts))
    (overflow_sub-counts c) number (c.loop-waiter.invariant number)
