use Rattle.std.proofs.Common.{◌≡◌, ◌∙◌, ◌<◌, ap, arith, get_or, length, subst}
use Rattle.std.proofs.lemmas.List.{length-map}
use Rattle.std.proofs.lemmas.Option.{slice_get_within}
use Rattle.flame_spec.specs.Choice.{functions_out}
use Rattle.flame_spec.specs.Functions.{Place}
use Rattle.flame_spec.specs.States.{states}
use Rattle.flame_world.proofs.RowsKept.{place_type}
use Rattle.flame_round.proofs.StatePlaces.{from_place}
use Rattle.flame_round.proofs.Stepped.{lists-of, one-place, out-is}
use Rattle.flame_round.proofs.routes.out_of.Goals as goal

pub bounds-items-route : goal.bounds-items-route
bounds-items-route c =
    let model = c.args.round.now.program.now.model in
    let place = c.requires.place in
    let typed = place_type model c.args.function place c.requires.there in
    omega (arith, slice_get_within model.agents place.agent place.type typed, c.requires.routed.agent, c.routes.ensures.leaving.0, ap length c.items.ensures)

pub bounds-items-route-2 : goal.bounds-items-route-2
bounds-items-route-2 c =
    let model = c.args.round.now.program.now.model in
    let place = c.requires.place in
    let typed = place_type model c.args.function c.requires.place c.requires.there in
    let within : c.args.route.now.agent < length c.routes.result.now.leaving =
    omega (arith, slice_get_within model.agents c.requires.place.agent c.requires.place.type typed, c.requires.routed.agent, c.routes.ensures.leaving.0) in
    let lists = lists-of model c.args.function place c.routes.result.now.leaving c.args.route.now.agent c.index-items-route.result
    c.requires.there c.requires.routed.agent c.routes.ensures.leaving
    within
    (subst (λ list. c.index-items-route.result ≡ get_or list c.args.route.now.agent c.index-items-route.result) c.items.ensures c.index-items-route.is) in
    omega (arith, ap length c.items-2.ensures, ap length lists, length-map (states place.type.functions) (functions_out model place.agent), c.requires.routed.from, from_place model c.args.function place c.requires.there)

pub returns : goal.returns
returns c place there =
    let model = c.args.round.now.program.now.model in
    let own = c.requires.place in
    let typed = place_type model c.args.function c.requires.place c.requires.there in
    let within : c.args.route.now.agent < length c.routes.result.now.leaving =
    omega (arith, slice_get_within model.agents c.requires.place.agent c.requires.place.type typed, c.requires.routed.agent, c.routes.ensures.leaving.0) in
    let lists = lists-of model c.args.function own c.routes.result.now.leaving c.args.route.now.agent c.index-items-route.result
    c.requires.there c.requires.routed.agent c.routes.ensures.leaving
    within
    (subst (λ list. c.index-items-route.result ≡ get_or list c.args.route.now.agent c.index-items-route.result) c.items.ensures c.index-items-route.is) in
    let out = out-is model c.args.function own c.args.route.now.from c.index-items-route-2.result c.requires.there c.requires.routed.from
    (subst (λ list. c.index-items-route-2.result ≡ get_or list c.args.route.now.from c.index-items-route-2.result) (c.items-2.ensures ∙ lists) c.index-items-route-2.is) in
    c.items-3.ensures ∙ out
    ∙ ap (λ (p : Place). functions_out model p.agent p.function.current) (one-place model c.args.function own place c.requires.there there)
