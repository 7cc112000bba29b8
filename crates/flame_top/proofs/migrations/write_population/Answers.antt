use Rattle.flame_popfile.specs.IterationTexts.{text}
use Rattle.flame_popfile.specs.declared.formats.Format.TheVariants.{Two}
use Rattle.flame_top.specs.OrderReports.{no_boards, migrated_line}
use Rattle.flame_top.proofs.FileAndLine.{put_stops, put_keeps, put_unread, line_stops, line_keeps, print_unread, both_stand, done_keeps}
use Rattle.flame_top.proofs.FaultlessEndings.{put_faultless, stop_faultless}
use Rattle.flame_top.proofs.migrations.write_population.Goals as goal

pub returns-in-Err-clause-stands : goal.returns-in-Err-clause-stands
returns-in-Err-clause-stands g c =
    let model = c.args.program.now.model in
    let start = c.args.start.now in
    put_stops c.args.to.now (text model Two start.itno start.world (no_boards model)) (migrated_line start.world)
    c.in-Err.ending
    (g.D.Depot.seen c.args.depot.now) (g.D.Depot.seen c.put_population.new.depot) (g.S.Sink.seen c.args.out.now)
    c.in-Err.ensures.stops c.in-Err.ensures.others

pub returns-in-Err-clause-keeps : goal.returns-in-Err-clause-keeps
returns-in-Err-clause-keeps g c =
    put_keeps c.args.to.now c.in-Err.ending
    (g.D.Depot.seen c.args.depot.now) (g.D.Depot.seen c.put_population.new.depot) (g.S.Sink.seen c.args.out.now)
    c.in-Err.ensures.stops c.in-Err.ensures.puts

pub returns-in-Err-clause-read : goal.returns-in-Err-clause-read
returns-in-Err-clause-read g c =
    put_unread c.args.to.now c.in-Err.ending
    (g.D.Depot.seen c.args.depot.now) (g.D.Depot.seen c.put_population.new.depot) c.in-Err.ensures.stops

pub returns-in-Ok-clause-stands : goal.returns-in-Ok-clause-stands
returns-in-Ok-clause-stands g c =
    let model = c.args.program.now.model in
    let start = c.args.start.now in
    both_stand c.args.to.now (text model Two start.itno start.world (no_boards model)) (migrated_line start.world)
    (g.D.Depot.seen c.args.depot.now) (g.D.Depot.seen c.put_population.new.depot)
    (g.S.Sink.seen c.args.out.now) (g.S.Sink.seen c.print_migrated.new.out)
    c.in_default.ensures.ok c.in-Ok.ensures.ok

pub returns-in-Ok-clause-keeps : goal.returns-in-Ok-clause-keeps
returns-in-Ok-clause-keeps g c =
    done_keeps 1
    (g.D.Depot.seen c.args.depot.now) (g.D.Depot.seen c.put_population.new.depot)
    (g.S.Sink.seen c.args.out.now) (g.S.Sink.seen c.print_migrated.new.out)
    c.in_default.ensures.puts c.in-Ok.ensures.grows

pub returns-in-Err-print_migrated-clause-stands : goal.returns-in-Err-print_migrated-clause-stands
returns-in-Err-print_migrated-clause-stands g c =
    let model = c.args.program.now.model in
    let start = c.args.start.now in
    line_stops c.args.to.now (text model Two start.itno start.world (no_boards model)) (migrated_line start.world)
    c.in-Err-print_migrated.ending
    (g.D.Depot.seen c.args.depot.now) (g.D.Depot.seen c.put_population.new.depot)
    (g.S.Sink.seen c.args.out.now) (g.S.Sink.seen c.print_migrated.new.out)
    c.in_default.ensures.ok c.in_default.ensures.puts c.in-Err-print_migrated.ensures.stops

pub returns-in-Err-print_migrated-clause-keeps : goal.returns-in-Err-print_migrated-clause-keeps
returns-in-Err-print_migrated-clause-keeps g c =
    line_keeps (migrated_line c.args.start.now.world) c.in-Err-print_migrated.ending 1
    (g.D.Depot.seen c.args.depot.now) (g.D.Depot.seen c.put_population.new.depot)
    (g.S.Sink.seen c.args.out.now) (g.S.Sink.seen c.print_migrated.new.out)
    c.in-Err-print_migrated.ensures.stops c.in_default.ensures.puts c.in-Err-print_migrated.ensures.grows

pub returns-in-Err-print_migrated-clause-read : goal.returns-in-Err-print_migrated-clause-read
returns-in-Err-print_migrated-clause-read g c =
    print_unread (migrated_line c.args.start.now.world) c.in-Err-print_migrated.ending
    (g.S.Sink.seen c.args.out.now) (g.S.Sink.seen c.print_migrated.new.out)
    c.in-Err-print_migrated.ensures.stops

pub returns-in-Err-clause-faultless : goal.returns-in-Err-clause-faultless
returns-in-Err-clause-faultless g c =
    put_faultless c.args.to.now c.in-Err.ending
    (g.D.Depot.seen c.args.depot.now) (g.D.Depot.seen c.put_population.new.depot) c.in-Err.ensures.stops

pub returns-in-Err-print_migrated-clause-faultless : goal.returns-in-Err-print_migrated-clause-faultless
returns-in-Err-print_migrated-clause-faultless g c =
    stop_faultless (migrated_line c.args.start.now.world) c.in-Err-print_migrated.ending
    (g.S.Sink.seen c.args.out.now) (g.S.Sink.seen c.print_migrated.new.out) c.in-Err-print_migrated.ensures.stops
