use Rattle.std.proofs.Common.{◌≡◌, List, length, subst, w32, rules, SFits}
use Rattle.std.specs.Prelude.{ℤ}
use Rattle.std.proofs.lemmas.Int.{to_z-of_z}
use Rattle.std.proofs.lemmas.Result.{IfOk-weaker}
use Rattle.flame_spec.specs.Columns.{width}
use Rattle.flame_meaning.specs.Outcomes.{outcome}
use Rattle.flame_leaving.specs.Leavings.{AreLeft}
use Rattle.flame_world.proofs.Eachs.{each_all}
use Rattle.flame_round.proofs.takers.run_over.Goals as goal

pub run_named-requires-clause-fits : goal.run_named-requires-clause-fits
run_named-requires-clause-fits c =
    let fits = c.requires in
    let wide = each_all (λ (row : List ℤ). length row ≡ width fits.place.type.memory) c.args.agents.now fits.memories in
    λ k d less. record {
      place = fits.place;
      there = fits.there;
      wide = wide k d less;
      count = fits.known;
      boards = fits.wide;
    }

pub returns : goal.returns
returns c =
    let round = c.args.round.now in
    let source = round.program.now in
    let fits : SFits w32 round.iteration = search rules in
    IfOk-weaker c.run_named.result _ _
    (λ leaving left all named.
    subst
    (λ (i : ℤ).
    AreLeft i c.args.function
    (λ memory. outcome source c.args.function memory all round.constants.now i round.fuel) c.args.agents.now leaving)
    (to_z-of_z w32 round.iteration fits) (left all named))
    c.run_named.ensures
