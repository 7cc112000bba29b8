use Rattle.std.proofs.Common.{◌≡◌, List, ℕ, Ok, subst}
use Rattle.flame_outside.specs.Memory.{seen_depot}
use Rattle.flame_outside.specs.Scripts.{outside}
use Rattle.flame_top.specs.Reports.{Report}
use Rattle.flame_top.specs.OrderReports.{start_read, ordered_run}
use Rattle.flame_load.specs.InputReads.{known}
use Rattle.flame_top.specs.InputAnswers.{Stops}
use Rattle.flame_top.specs.Standing.{Stands}
use Rattle.flame_top.proofs.OwnDepots.{no_read_fault}
use Rattle.flame_top.proofs.TrialInputs.{behind_input, stops_at_input, keeps_at_input}
use Rattle.flame_top.proofs.trials.start_trial.Goals as goal

pub returns-in-Ok-clause-stands : goal.returns-in-Ok-clause-stands
returns-in-Ok-clause-stands g c = λ told depot is.
    let order = c.args.order.now in
    let source = c.args.program.now in
    let given = subst
    (λ (name : List ℕ). (start_read told source order.turns name).answer ≡ Ok c.in-Ok.start)
    c.as_str.ensures (c.in-Ok.ensures.gives told is) in
    subst
    (λ (report : Report).
    Stands c.run_trial.result.ending c.run_trial.result.files report
    (outside depot (g.S.Sink.seen c.args.out.now)) (outside depot (g.S.Sink.seen c.run_trial.new.out)))
    (behind_input (start_read told source order.turns order.pop) (λ start. known (ordered_run order source start))
    c.in-Ok.start given)
    (c.run_trial.ensures.stands depot)

pub returns-in-Err-clause-stands : goal.returns-in-Err-clause-stands
returns-in-Err-clause-stands g c = λ told depot is.
    let order = c.args.order.now in
    let source = c.args.program.now in
    let stops = subst (λ (name : List ℕ). Stops c.in-Err.ending (start_read told source order.turns name))
    c.as_str.ensures (c.in-Err.ensures.gives told is) in
    rw (c.before_files.ensures.ending, c.before_files.ensures.files)
    (stops_at_input (start_read told source order.turns order.pop) (λ start. known (ordered_run order source start))
    c.in-Err.ending (outside depot (g.S.Sink.seen c.args.out.now)) stops
    (no_read_fault c.in-Err.ending (seen_depot c.args.inputs.now) (seen_depot c.start_in.new.depot)
    c.requires.calm c.in-Err.ensures.read_fault))

pub returns-in-Err-clause-keeps : goal.returns-in-Err-clause-keeps
returns-in-Err-clause-keeps g c = λ depot.
    rw (c.before_files.ensures.ending, c.before_files.ensures.files)
    (keeps_at_input c.in-Err.ending depot (g.S.Sink.seen c.args.out.now) c.in-Err.ensures.stops
    (no_read_fault c.in-Err.ending (seen_depot c.args.inputs.now) (seen_depot c.start_in.new.depot)
    c.requires.calm c.in-Err.ensures.read_fault))
