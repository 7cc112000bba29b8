use Rattle.std.proofs.Common.{rules}
use Rattle.std.specs.Prelude.{negsuc, ◌≤ℤ◌}
use Rattle.flame_outside.specs.Memory.{seen_depot, total_of}
use Rattle.flame_outside.specs.WhatIsTold.{files_by}
use Rattle.flame_driver.specs.RunScripts.{written_as}
use Rattle.flame_top.specs.OrderReports.{version, ordered_run}
use Rattle.flame_top.specs.TrialAnswers.{total_line}
use Rattle.flame_top.proofs.FileTotals.{NamesStandOnce}
use Rattle.flame_top.proofs.OwnDepots.{new_calm, new_empty}
use Rattle.flame_top.proofs.RunNames.{names_stand_once}
use Rattle.flame_top.proofs.TrialEndings.{trial_stands, trial_keeps}
use Rattle.flame_top.proofs.trials.run_trial.Goals as goal

pub returns-clause-stands : goal.returns-clause-stands
returns-clause-stands g c = λ depot.
    let order = c.args.order.now in
    let source = c.args.program.now in
    let start = c.args.start in
    let low : negsuc 2147483647 ≤ℤ start.itno = search rules in
    let names : NamesStandOnce (files_by (ordered_run order source start).acts)
    = names_stand_once c.different_names.ensures c.iterated_runs.ensures c.written_stages.ensures source order.how.fuel
    order.turns start low c.requires.last (written_as source.model (version order.format) order.out)
    in
    let own = c.calm_depot-files.result in
    rw (c.before_files.ensures.ending, c.before_files.ensures.files)
    (trial_stands (ordered_run order source start) (seen_depot own) c.run_from-ran.new.depot depot
    (g.S.Sink.seen c.args.out.now) (g.S.Sink.seen c.run_from-ran.new.out) (g.S.Sink.seen c.end_trial.new.out)
    c.run_from-ran.result.ending c.end_trial.result c.run_from-ran.result.files
    (new_calm own c.calm_depot-files.ensures) (new_empty own c.calm_depot-files.ensures) names
    c.run_from-ran.ensures.grows c.end_trial.ensures.grows c.run_from-ran.ensures.stands c.end_trial.ensures.ends)

pub returns-clause-keeps : goal.returns-clause-keeps
returns-clause-keeps g c = λ depot.
    let own = c.calm_depot-files.result in
    rw (c.before_files.ensures.ending, c.before_files.ensures.files)
    (trial_keeps (ordered_run c.args.order.now c.args.program.now c.args.start) (seen_depot own) c.run_from-ran.new.depot depot
    (g.S.Sink.seen c.args.out.now) (g.S.Sink.seen c.run_from-ran.new.out) (g.S.Sink.seen c.end_trial.new.out)
    (new_calm own c.calm_depot-files.ensures) (total_line (total_of c.run_from-ran.new.depot.files))
    c.end_trial.result c.end_trial.ensures.grows
    c.run_from-ran.result.ending c.run_from-ran.result.files c.run_from-ran.ensures.keeps c.end_trial.ensures.ends)
