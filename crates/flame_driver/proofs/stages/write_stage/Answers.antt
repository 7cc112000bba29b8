use Rattle.std.proofs.Common.{rules, ℤ, to_z, of_z, w32, FitsSigned, subst}
use Rattle.std.proofs.lemmas.Int.{to_z-of_z}
use Rattle.flame_outside.specs.Scripts.{outside}
use Rattle.flame_driver.specs.Runs.{stage}
use Rattle.flame_driver.specs.StageStops.{StopsStage, writing_of}
use Rattle.flame_driver.proofs.StoppedStages.{line_stops}
use Rattle.flame_driver.proofs.stages.write_stage.Goals as goal

pub returns-in-Err-print_line-clause-stops : goal.returns-in-Err-print_line-clause-stops
returns-in-Err-print_line-clause-stops g c =
    let fits : FitsSigned w32 c.args.itno = search rules in
    let depot = g.D.Depot.seen c.args.depot.now in
    let depot' = g.D.Depot.seen c.put_file.new.depot in
    let sink = g.S.Sink.seen c.args.out.now in
    let sink' = g.S.Sink.seen c.print_line.new.out in
    subst
    (λ (itno : ℤ).
    StopsStage (writing_of c.args.plan.now) (stage itno c.args.world.now c.args.boards.now)
    c.in-Err-print_line.end 1 (outside depot sink) (outside depot' sink'))
    (to_z-of_z w32 c.args.itno fits)
    (line_stops (writing_of c.args.plan.now)
    (stage (to_z w32 (of_z w32 c.args.itno)) c.args.world.now c.args.boards.now)
    c.in-Err-print_line.end depot depot' sink sink'
    c.in_default.ensures.ok c.in_default.ensures.puts c.in-Err-print_line.ensures.stops)
