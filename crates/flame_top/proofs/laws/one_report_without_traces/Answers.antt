use Rattle.flame_top.proofs.TracedIterations.{one_report_without_traces}
use Rattle.flame_top.proofs.laws.one_report_without_traces.Goals as goal

pub returns : goal.returns
returns c = one_report_without_traces
