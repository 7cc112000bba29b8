-- What stands of a run that is ordered.
use Rattle.flame_outside.specs.Scripts.{outside}
use Rattle.flame_outside.proofs.FrameLemmas.{puts_go_on}
use Rattle.flame_driver.specs.Runs.{run}
use Rattle.flame_driver.specs.RunScripts.{written_as}
use Rattle.flame_top.proofs.DrivenRuns.{ordered_stands, run_keeps, run_is_driven}
use Rattle.flame_top.proofs.runs.run_from.Goals as goal

pub returns-clause-stands : goal.returns-clause-stands
returns-clause-stands g c =
    ordered_stands c.args.order.now c.args.program.now c.args.start c.version.result c.as_str-prefix.result.now
    c.drive-end.result.end c.ending_of.result c.drive-end.result.files
    (outside (g.D.Depot.seen c.args.depot.now) (g.S.Sink.seen c.args.out.now))
    (outside (g.D.Depot.seen c.drive-end.new.depot) (g.S.Sink.seen c.drive-end.new.out))
    c.version.ensures c.as_str-prefix.ensures c.ending_of.ensures c.drive-end.ensures.drives

pub returns-clause-keeps : goal.returns-clause-keeps
returns-clause-keeps g c =
    let depot = g.D.Depot.seen c.args.depot.now in
    let sink = g.S.Sink.seen c.args.out.now in
    let depot' = g.D.Depot.seen c.drive-end.new.depot in
    let sink' = g.S.Sink.seen c.drive-end.new.out in
    let order = c.args.order.now in
    run_keeps (written_as c.args.program.now.model c.version.result c.as_str-prefix.result.now) c.args.start.itno
    (run c.args.program.now order.how.fuel order.turns c.args.start)
    c.drive-end.result.end c.ending_of.result c.drive-end.result.files (outside depot sink) (outside depot' sink')
    c.ending_of.ensures c.drive-end.ensures.drives
    (puts_go_on depot depot' sink sink' c.drive-end.ensures.puts c.drive-end.ensures.grows)

pub returns-clause-driven : goal.returns-clause-driven
returns-clause-driven g c =
    let old = outside (g.D.Depot.seen c.args.depot.now) (g.S.Sink.seen c.args.out.now) in
    let order = c.args.order.now in
    run_is_driven (written_as c.args.program.now.model c.version.result c.as_str-prefix.result.now) c.args.start.itno
    (run c.args.program.now order.how.fuel order.turns c.args.start)
    c.drive-end.result.end c.ending_of.result c.drive-end.result.files old old c.ending_of.ensures
