use Rattle.std.proofs.Common.{◌≡◌, List, ℕ, Ok, subst, ◌∙◌}
use Rattle.flame_outside.specs.Memory.{seen_depot}
use Rattle.flame_outside.specs.Scripts.{outside}
use Rattle.flame_top.specs.Reports.{Report}
use Rattle.flame_top.specs.OrderReports.{source_read}
use Rattle.flame_top.specs.InputAnswers.{Stops}
use Rattle.flame_top.specs.Standing.{Stands}
use Rattle.flame_top.specs.TrialAnswers.{started_run}
use Rattle.flame_top.proofs.OwnDepots.{no_read_fault}
use Rattle.flame_top.proofs.TrialInputs.{behind_input, stops_at_input, keeps_at_input}
use Rattle.flame_top.proofs.trials.trial_over.Goals as goal

pub returns-in-Ok-clause-stands : goal.returns-in-Ok-clause-stands
returns-in-Ok-clause-stands g c = λ read told depot reads is.
    let order = c.args.order.now in
    let given = subst
    (λ (name : List ℕ). (source_read read told name).answer ≡ Ok c.in-Ok.program)
    c.as_str.ensures (c.in-Ok.ensures.gives told read is reads) in
    subst
    (λ (report : Report).
    Stands c.start_trial.result.ending c.start_trial.result.files report
    (outside depot (g.S.Sink.seen c.args.out.now)) (outside depot (g.S.Sink.seen c.start_trial.new.out)))
    (behind_input (source_read read told order.model) (started_run told order) c.in-Ok.program given)
    (c.start_trial.ensures.stands told depot (c.in-Ok.ensures.reads.files ∙ is))

pub returns-in-Err-clause-stands : goal.returns-in-Err-clause-stands
returns-in-Err-clause-stands g c = λ read told depot reads is.
    let order = c.args.order.now in
    let stops = subst (λ (name : List ℕ). Stops c.in-Err.ending (source_read read told name))
    c.as_str.ensures (c.in-Err.ensures.gives told read is reads) in
    rw (c.before_files.ensures.ending, c.before_files.ensures.files)
    (stops_at_input (source_read read told order.model) (started_run told order)
    c.in-Err.ending (outside depot (g.S.Sink.seen c.args.out.now)) stops
    (no_read_fault c.in-Err.ending (seen_depot c.args.inputs.now) (seen_depot c.program_in.new.depot)
    c.requires.calm c.in-Err.ensures.read_fault))

pub returns-in-Err-clause-keeps : goal.returns-in-Err-clause-keeps
returns-in-Err-clause-keeps g c = λ depot.
    rw (c.before_files.ensures.ending, c.before_files.ensures.files)
    (keeps_at_input c.in-Err.ending depot (g.S.Sink.seen c.args.out.now) c.in-Err.ensures.stops
    (no_read_fault c.in-Err.ending (seen_depot c.args.inputs.now) (seen_depot c.program_in.new.depot)
    c.requires.calm c.in-Err.ensures.read_fault))
