use Rattle.flame_report.specs.FaultLines.{trace_line}
use Rattle.flame_top.proofs.ReplayEndings.{line_is_ending}
use Rattle.flame_top.proofs.replays.refused_trace.Goals as goal

pub returns : goal.returns
returns c =
    line_is_ending (trace_line c.args.name.now c.args.verdict.now) c.trace_fault_text.result c.refused.result
    c.trace_fault_text.ensures c.refused.ensures
