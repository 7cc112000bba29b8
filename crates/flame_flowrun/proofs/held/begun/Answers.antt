-- A piece that is begun is due.
use Rattle.std.proofs.Common.{ap}
use Rattle.flame_flow.specs.SeenFlows.{SeenFlow, start_of}
use Rattle.flame_flowrun.proofs.Dueness.{job_due}
use Rattle.flame_flowrun.proofs.held.begun.Goals as goal

pub returns-in-Ok-clause-due : goal.returns-in-Ok-clause-due
returns-in-Ok-clause-due c = job_due c.args.flow.now c.args.function c.args.piece c.in-Ok.job c.ready-ready.ensures.kept c.in-Ok.ensures.job

pub returns-in-Ok-clause-start : goal.returns-in-Ok-clause-start
returns-in-Ok-clause-start c = ap (λ (s : SeenFlow). start_of s.seen) c.in-Ok.ensures.ok

pub returns-in-Err-clause-start : goal.returns-in-Err-clause-start
returns-in-Err-clause-start c = ap (λ (s : SeenFlow). start_of s.seen) c.in-Err.ensures.err
