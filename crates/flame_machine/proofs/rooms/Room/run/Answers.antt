-- Lists that were empty hold what the run added alone.
use mir.Syntax.{w32}
use mir.Val.{SFits}
use Rattle.std.proofs.Common.{rules, sym, subst}
use Rattle.std.specs.Prelude.{ℤ}
use Rattle.std.proofs.lemmas.Int.{to_z-of_z}
use Rattle.flame_code.specs.Meanings.{Entry, Means}
use Rattle.flame_machine.proofs.Outcomes.{ran-alone}
use Rattle.flame_machine.proofs.rooms.Room.run.Goals as goal

pub returns-clause-means : goal.returns-clause-means
returns-clause-means g c =
    let fits : SFits w32 c.args.iteration = search rules in
    let from : ℤ → Entry =
    λ at.
    record {
      memory = c.args.memory.now;
      feeds = g.F.Feed.feeds c.args.feed.now;
      constants = c.args.constants.now;
      iteration = at;
      fuel = c.args.fuel;
    } in
    let alone =
    ran-alone _ _ _ _ _ _ c.new-sent.ensures.items c.new-born.ensures.items c.in_ok-ending.ensures.ran in
    subst (λ at. Means c.args.helpers.now.routines c.args.code.now (from at) c.whole.result)
    (to_z-of_z w32 c.args.iteration fits)
    (subst (Means c.args.helpers.now.routines c.args.code.now _) (sym c.whole.ensures) alone)
