-- The first that is faulted behind those that are shut.
use Rattle.std.proofs.Common.{◌≡◌, ℕ, false, get_or, sym, arith}
use Rattle.flame_events.specs.CoreEnds.{is_faulted}
use Rattle.flame_progress.specs.KeptCores.{core_of}
use Rattle.flame_core.proofs.LeastRanks.{found_rank, none_ranked}
use Rattle.flame_core.proofs.ShutRanks.{none_faulted}
use Rattle.flame_core.proofs.ranks.first_faulted.Goals as goal
use borrow.Author.Count.{below_more}

pub returns-then-is_faulted : goal.returns-then-is_faulted
returns-then-is_faulted c =
    sym (found_rank (is_faulted (core_of c.args.progress.now)) c.args.functions.now c.loop-i.i c.loop-i-test.true c.loop-i.invariant
    (sym c.if-is_faulted.ensures))

pub loop-i-init : goal.loop-i-init
loop-i-init c = none_faulted (core_of c.args.progress.now) c.args.functions.now c.args.known c.requires.known

pub loop-i-preserved : goal.loop-i-preserved
loop-i-preserved c =
    below_more (λ (k : ℕ). is_faulted (core_of c.args.progress.now) (get_or c.args.functions.now k 0) ≡ false) c.loop-i.i c.loop-i.invariant
    (sym c.if-is_faulted.ensures)

pub returns : goal.returns
returns c =
    sym (none_ranked (is_faulted (core_of c.args.progress.now)) c.args.functions.now
    (λ k less. c.loop-i.invariant k (omega (arith, less, c.loop-i-test.false))))
