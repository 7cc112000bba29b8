use Rattle.std.proofs.Common.{sym, arith}
use Rattle.std.proofs.Math.IntN.{+ℤ_idr}
use Rattle.flame_outside.specs.Scripts.{outside}
use Rattle.flame_outside.proofs.FrameLemmas.{puts_same, puts_join, puts_go_on, grows_same, grows_join}
use Rattle.flame_driver.specs.RunScripts.{written_as}
use Rattle.flame_driver.proofs.LeftRuns.{begins_at, next_reached, stops_at, ends_at, number_after}
use Rattle.flame_driver.proofs.drivers.drive.Goals as goal

pub loop-done-init : goal.loop-done-init
loop-done-init g c =
    let source = c.args.program.now in
    let depot = g.D.Depot.seen c.args.depot.now in
    let sink = g.S.Sink.seen c.args.out.now in
    record {
      number = sym (+ℤ_idr c.args.start.itno);
      fits = c.requires.fits;
      ready = c.requires.ready;
      reaches =
          begins_at source c.args.fuel (written_as source.model c.args.format c.args.prefix.now)
          c.args.turns c.args.start (outside depot sink);
      puts = puts_same depot;
      grows = grows_same sink;
    }

pub loop-done-preserved : goal.loop-done-preserved
loop-done-preserved g c =
    let l = c.loop-done in
    let i = l.invariant in
    let e = c.in-Ok.ensures in
    let source = c.args.program.now in
    let depot = g.D.Depot.seen c.args.depot.now in
    let sink = g.S.Sink.seen c.args.out.now in
    let depot' = g.D.Depot.seen l.depot in
    let sink' = g.S.Sink.seen l.out in
    let depot'' = g.D.Depot.seen c.iterate_once.new.depot in
    let sink'' = g.S.Sink.seen c.iterate_once.new.out in
    record {
      number = number_after c.args.start.itno l.start.itno c.in-Ok.next.itno l.done i.number e.number;
      fits = e.fits;
      ready = e.ready;
      reaches =
          next_reached source c.args.fuel (written_as source.model c.args.format c.args.prefix.now)
          c.args.turns c.args.start l.done l.start c.in-Ok.next
          (outside depot sink) (outside depot' sink') (outside depot'' sink'')
          (omega arith) i.reaches e.number e.next
          (puts_go_on depot' depot'' sink' sink'' e.puts e.grows);
      puts = puts_join depot depot' depot'' i.puts e.puts;
      grows = grows_join sink sink' sink'' i.grows e.grows;
    }

pub returns-in-Err-clause-drives : goal.returns-in-Err-clause-drives
returns-in-Err-clause-drives g c =
    let l = c.loop-done in
    let source = c.args.program.now in
    stops_at source c.args.fuel (written_as source.model c.args.format c.args.prefix.now)
    c.args.turns c.args.start
    c.in-Err.field-0.end c.in-Err.field-0.files l.done l.start
    (outside (g.D.Depot.seen c.args.depot.now) (g.S.Sink.seen c.args.out.now))
    (outside (g.D.Depot.seen l.depot) (g.S.Sink.seen l.out))
    (outside (g.D.Depot.seen c.iterate_once.new.depot) (g.S.Sink.seen c.iterate_once.new.out))
    (omega arith) l.invariant.number l.invariant.reaches c.in-Err.ensures.stops

pub returns-clause-drives : goal.returns-clause-drives
returns-clause-drives g c =
    let l = c.loop-done in
    let source = c.args.program.now in
    ends_at source c.args.fuel (written_as source.model c.args.format c.args.prefix.now)
    c.args.turns c.args.start l.done l.start
    (outside (g.D.Depot.seen c.args.depot.now) (g.S.Sink.seen c.args.out.now))
    (outside (g.D.Depot.seen l.depot) (g.S.Sink.seen l.out))
    (omega arith) l.invariant.reaches

pub returns-in-Err-clause-grows : goal.returns-in-Err-clause-grows
returns-in-Err-clause-grows g c =
    grows_join (g.S.Sink.seen c.args.out.now) (g.S.Sink.seen c.loop-done.out) (g.S.Sink.seen c.iterate_once.new.out)
    c.loop-done.invariant.grows c.in-Err.ensures.grows

pub returns-in-Err-clause-puts : goal.returns-in-Err-clause-puts
returns-in-Err-clause-puts g c =
    puts_join (g.D.Depot.seen c.args.depot.now) (g.D.Depot.seen c.loop-done.depot) (g.D.Depot.seen c.iterate_once.new.depot)
    c.loop-done.invariant.puts c.in-Err.ensures.puts
