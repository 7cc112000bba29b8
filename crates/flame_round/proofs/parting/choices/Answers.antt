use Rattle.std.proofs.Common.{◌≡◌, ◌<◌, length, sym, subst, w32, rules, SFits}
use Rattle.std.specs.List.{All}
use Rattle.std.proofs.lemmas.Int.{to_z-of_z}
use Rattle.std.proofs.lemmas.Result.{IfOk-weaker}
use Rattle.std.proofs.lemmas.Slice.Zip.{AllZip-long}
use Rattle.flame_spec.specs.Choice.{functions_out, leaves}
use Rattle.flame_spec.specs.Functions.{functions}
use Rattle.flame_round.proofs.Gets.{numbers-in}
use Rattle.flame_round.proofs.Chosen.{choices-left}
use Rattle.flame_round.proofs.parting.choices.Goals as goal

pub choose_rows-requires-clause-known : goal.choose_rows-requires-clause-known
choose_rows-requires-clause-known c =
    let model = c.args.round.now.program.now.model in
    let place = c.requires.place in
    let out = c.out_of-functions.ensures place c.requires.there in
    let conditions = c.conditions-conditions.result.now in
    let count : length (functions model) ≡ length conditions = (sym (AllZip-long _ (functions model) conditions c.conditions-conditions.ensures)) in
    let all : All (λ number. number < length conditions) (functions_out model place.agent place.function.current) =
    subst (λ n. All (λ number. number < n) (functions_out model place.agent place.function.current)) count
    (numbers-in (leaves place.agent place.function.current) (functions model)) in
    subst (λ list. All (λ number. number < length conditions) list) (sym out) all

pub returns : goal.returns
returns c =
    let iteration = c.args.round.now.iteration in
    let fits : SFits w32 iteration = search rules in
    let chose = rw (to_z-of_z w32 iteration fits) at c.choose_rows.ensures in
    IfOk-weaker c.choose_rows.result _ _
    (λ choices is.
    choices-left c.args.round.now.program.now.model c.args.function c.args.route.now c.requires c.conditions-conditions.result.now
    iteration c.args.agents.now c.out_of-functions.result.now choices c.conditions-conditions.ensures
    (c.out_of-functions.ensures c.requires.place c.requires.there) is)
    chose
