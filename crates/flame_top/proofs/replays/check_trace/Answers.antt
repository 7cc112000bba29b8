use Rattle.std.proofs.Common.{subst}
use Rattle.flame_world.specs.declared.verdicts.Verdict.{Verdict}
use Rattle.flame_trace.specs.TraceVerdicts.{verdict}
use Rattle.flame_top.specs.TraceAnswers.{EndsReplay}
use Rattle.flame_top.proofs.ReplayEndings.{no_verdict}
use Rattle.flame_top.proofs.replays.check_trace.Goals as goal

pub returns-in-Ok-clause-ends : goal.returns-in-Ok-clause-ends
returns-in-Ok-clause-ends g c =
    subst
    (λ (v : Verdict). EndsReplay c.args.name.now v (g.S.Sink.seen c.args.out.now) (g.S.Sink.seen c.verdict_ending.new.out) c.verdict_ending.result)
    c.in-Ok.ensures c.verdict_ending.ensures.ends

pub returns-in-Err-clause-ends : goal.returns-in-Err-clause-ends
returns-in-Err-clause-ends g c =
    no_verdict c.args.name.now (verdict c.args.program.now c.args.start.now c.args.bytes.now) (g.S.Sink.seen c.args.out.now)
