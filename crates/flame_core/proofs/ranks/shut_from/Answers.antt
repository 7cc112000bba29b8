-- The functions that are shut before the first that is not.
use Rattle.std.proofs.Common.{sym}
use Rattle.flame_events.specs.CoreStates.{is_shut, status_of}
use Rattle.flame_progress.specs.KeptCores.{core_of}
use Rattle.flame_core.proofs.ShutRanks.{front_is, front_more}
use Rattle.flame_core.proofs.ranks.shut_from.Goals as goal

pub returns-then-not-is_shut : goal.returns-then-not-is_shut
returns-then-not-is_shut c =
    front_is (λ f. is_shut (status_of (core_of c.args.progress.now) f)) c.args.functions.now c.loop-i.i c.loop-i.invariant
    (sym c.if-not-is_shut.ensures)

pub loop-i-preserved : goal.loop-i-preserved
loop-i-preserved c =
    front_more (λ f. is_shut (status_of (core_of c.args.progress.now) f)) c.args.functions.now c.loop-i.i c.loop-i-test.true c.loop-i.invariant
    (sym c.if-not-is_shut.ensures)
