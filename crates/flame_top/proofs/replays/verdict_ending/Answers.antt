use Rattle.flame_top.proofs.ReplayEndings.{not_yes, refusal_ends}
use Rattle.flame_top.proofs.replays.verdict_ending.Goals as goal

pub refused_trace-requires : goal.refused_trace-requires
refused_trace-requires g c = not_yes c.args.verdict c.in_default.not-Yes

pub returns-in_default-clause-ends : goal.returns-in_default-clause-ends
returns-in_default-clause-ends g c =
    refusal_ends c.args.name.now c.args.verdict c.refused_trace.result (g.S.Sink.seen c.args.out.now)
    (not_yes c.args.verdict c.in_default.not-Yes) c.refused_trace.ensures
