-- No function is noted at first; at the end all are.
use Rattle.std.proofs.Common.{◌∙◌, map, ap, sym, arith}
use Rattle.std.proofs.lemmas.Grind.{text_groups}
use Rattle.std.proofs.lemmas.Simd.{map-map}
use Rattle.flame_lookup.specs.WordTables.{numbers_under}
use Rattle.flame_spec.specs.States.{states}
use Rattle.flame_route.proofs.RouteChoices.{all-functions}
use Rattle.flame_route.proofs.types.routes_of.Goals as goal

pub chosen_routes-requires-clause-none : goal.chosen_routes-requires-clause-none
chosen_routes-requires-clause-none c = λ state. grind (arith, text_groups)

pub returns : goal.returns
returns c =
    let under = numbers_under c.chosen_routes.new.table in
    let names = c.items.result.now in
    all-functions c.args.messages.now c.args.at c.args.agent.now c.args.first c.in_ok-routes.routes.items under
    c.of.result c.in_ok-routes.ensures
    (c.of.ensures ∙ c.in_ok-leaving.ensures ∙ sym (map-map under (λ name. name.now) names)
    ∙ ap (map under) (c.items.ensures ∙ c.in_ok-own.ensures ∙ ap states c.items-functions.ensures))
