use Rattle.std.proofs.Common.{◌≡◌, ◌<◌, ◌∙◌, length, sym, subst, w32, rules, SFits}
use Rattle.std.specs.List.{All}
use Rattle.std.proofs.lemmas.Int.{to_z-of_z}
use Rattle.std.proofs.lemmas.Slice.Zip.{AllZip-long}
use Rattle.flame_spec.specs.Choice.{functions_out, leaves}
use Rattle.flame_spec.specs.Functions.{functions}
use Rattle.flame_pool.specs.Choosing.{first_place}
use Rattle.flame_round.proofs.Gets.{numbers-in}
use Rattle.flame_round.proofs.Chosen.{choices-left}
use Rattle.flame_layerrun.specs.LayerChoices.{AreRunChoices}
use Rattle.flame_layerrun.proofs.RunChoices.{runs-whole}
use Rattle.flame_layerrun.proofs.choosing.choices.Goals as goal

pub choose_runs-requires-clause-known : goal.choose_runs-requires-clause-known
choose_runs-requires-clause-known g c κs within =
    let model = c.args.round.now.program.now.model in
    let place = c.requires.route.place in
    let out = c.out_of-functions.ensures place c.requires.route.there in
    let conditions = c.conditions-conditions.result.now in
    let count : length (functions model) ≡ length conditions = (sym (AllZip-long _ (functions model) conditions c.conditions-conditions.ensures)) in
    let all : All (λ number. number < length conditions) (functions_out model place.agent place.function.current) =
    subst (λ n. All (λ number. number < n) (functions_out model place.agent place.function.current)) count
    (numbers-in (leaves place.agent place.function.current) (functions model)) in
    subst (λ list. All (λ number. number < length conditions) list) (sym out) all

pub returns : goal.returns
returns g c =
    let iteration = c.args.round.now.iteration in
    let fits : SFits w32 iteration = search rules in
    let conditions = c.conditions-conditions.result.now in
    let out = c.out_of-functions.result.now in
    let agents = c.args.agents.now in
    let chose : AreRunChoices (first_place conditions out iteration) _ agents c.in_ok-results.results.items =
    rw (to_z-of_z w32 iteration fits) at c.in_ok-results.ensures in
    let whole = runs-whole (first_place conditions out iteration) _ agents c.in_ok-results.results.items c.in_ok-runs.runs.items
    c.run_size-size.ensures chose c.in_ok-runs.ensures in
    choices-left c.args.round.now.program.now.model c.args.function c.args.route.now c.requires.route conditions iteration agents out _
    c.conditions-conditions.ensures
    (c.out_of-functions.ensures c.requires.route.place c.requires.route.there)
    (c.of.ensures ∙ c.in_ok-joined.ensures ∙ whole)
