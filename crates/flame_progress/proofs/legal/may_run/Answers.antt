use Rattle.std.proofs.Common.{ap, ◌∙◌}
use Rattle.flame_events.specs.LegalEvents.{may_run}
use Rattle.flame_progress.proofs.legal.may_run.Goals as goal

pub returns-in-Some : goal.returns-in-Some
returns-in-Some c = c.has_left.ensures ∙ ap may_run c.in-Some.ensures.work

pub returns-in-None : goal.returns-in-None
returns-in-None c = ap may_run c.in-None.ensures.work
