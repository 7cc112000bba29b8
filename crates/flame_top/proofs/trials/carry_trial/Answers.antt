use Rattle.flame_outside.specs.Scripts.{outside}
use Rattle.flame_words.specs.declared.orders.RunOrder.{RunOrder}
use Rattle.std.proofs.Common.{subst}
use Rattle.flame_top.specs.declared.ending.Ending.TheVariants.{NoMemory}
use Rattle.flame_top.specs.Reports.{report_in}
use Rattle.flame_top.specs.OrderReports.{meadow_files, run_reading, trial_of, trial_report}
use Rattle.flame_top.specs.Standing.{Stands}
use Rattle.flame_top.proofs.Standings.{carries_known}
use Rattle.flame_top.proofs.TrialInputs.{lacks_memory, keeps_at_input}
use Rattle.flame_top.proofs.trials.carry_trial.Goals as goal

pub returns-in-Ok-clause-carries : goal.returns-in-Ok-clause-carries
returns-in-Ok-clause-carries g c = λ read depot reads.
    let order = c.args.order.now in
    let told = meadow_files order.seed order.size in
    let old = outside depot (g.S.Sink.seen c.args.out.now) in
    let new = outside depot (g.S.Sink.seen c.trial_over.new.out) in
    let r = c.trial_over.result in
    carries_known (trial_report read order) r.ending r.files old new c.trial_over.ensures.read
    (subst (λ (run : RunOrder). Stands r.ending r.files (trial_of (report_in (run_reading read told run))) old new)
    c.in-Ok.ensures.order
    (c.trial_over.ensures.stands read told depot reads c.in-Ok.ensures.files))

pub returns-in-Err-clause-carries : goal.returns-in-Err-clause-carries
returns-in-Err-clause-carries g c = λ read depot reads.
    let old = outside depot (g.S.Sink.seen c.args.out.now) in
    rw (c.before_files.ensures.ending, c.before_files.ensures.files)
    (carries_known (trial_report read c.args.order.now) NoMemory 0 old old (λ r. r)
    (lacks_memory (trial_report read c.args.order.now) old))

pub returns-in-Err-clause-keeps : goal.returns-in-Err-clause-keeps
returns-in-Err-clause-keeps g c = λ depot.
    rw (c.before_files.ensures.ending, c.before_files.ensures.files)
    (keeps_at_input NoMemory depot (g.S.Sink.seen c.args.out.now) tt (λ r. r))
