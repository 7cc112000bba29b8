use Rattle.std.specs.Prelude.{◌≡◌, ◌-◌, pos, ◌+ℤ◌}
use Rattle.flame_outside.specs.Frames.{OnlyPuts, Grows}
use Rattle.flame_outside.specs.Scripts.{outside}
use Rattle.flame_world.specs.WorldFits.{FitsModel}
use Rattle.flame_driver.specs.Runs.{run}
use Rattle.flame_driver.specs.RunScripts.{written_as}
use Rattle.flame_driver.proofs.LeftRuns.{Reaches}
use Rattle.flame_driver.proofs.drivers.drive.Given as goal

abbrev pub invariant-loop-done : goal.invariant-loop-done
invariant-loop-done g l =
    let source = l.program in
    let depot = g.D.Depot.seen l.initial.depot in
    let sink = g.S.Sink.seen l.initial.out in
    let depot' = g.D.Depot.seen l.depot in
    let sink' = g.S.Sink.seen l.out in
    record {
      number : l.start.itno ≡ l.initial.start.itno +ℤ pos l.done;
      fits : FitsModel source.model l.start.world;
      ready : g.R.Runner.ready l.runner;
      reaches :
          Reaches (written_as source.model l.fn.format l.prefix) l.done
          (run source l.fuel l.turns l.initial.start)
          (run source l.fuel (l.turns - l.done) l.start)
          (outside depot sink) (outside depot' sink');
      puts : OnlyPuts depot depot';
      grows : Grows sink sink';
    }
