use Rattle.std.proofs.Common.{ap, ◌∙◌, w32, rules, SFits}
use Rattle.std.proofs.lemmas.Int.{to_z-of_z}
use Rattle.rayon.proofs.ToStd.{slice-map}
use Rattle.flame_pool.specs.Choosing.{first_place, choices_of}
use Rattle.flame_pool.proofs.choices.choose.Goals as goal

pub returns : goal.returns
returns g c =
    let slice = ap (λ it. it.slice.now) c.map.ensures.base ∙ c.par_iter.ensures ∙ c.rows.ensures.rows in
    let given = c.in_ok-choices.ensures in
    let fits : SFits w32 c.args.iteration = search rules in
    let chain = rw (c.map.ensures.f, to_z-of_z w32 c.args.iteration fits) at given.1 in
    let chosen = first_place c.items-conditions.result.now c.args.functions.now c.args.iteration in
    c.of.ensures
    ∙ given.2
    ∙ slice-map chain.0 c.args.pool.now (chain.1 ∙ slice) chosen given.0 chain.2
    ∙ ap (λ conditions. choices_of conditions c.args.functions.now c.args.iteration c.args.pool.now) c.items-conditions.ensures
