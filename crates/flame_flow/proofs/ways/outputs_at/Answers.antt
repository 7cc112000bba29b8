use Rattle.std.proofs.Common.{◌≡◌, ◌<◌, ap, arith, get_or, length, refl, subst, sym, ◌∙◌}
use Rattle.std.proofs.lemmas.Option.{slice_get_past, slice_get_read}
use Rattle.std.proofs.lemmas.Slice.Zip.{AllZip-long}
use Rattle.flame_rows.proofs.Lists.{AllZip-at, slice_get-some}
use Rattle.flame_spec.specs.Functions.{functions}
use Rattle.flame_meaning.specs.Outcomes.{outputs_at}
use Rattle.flame_route.specs.ModelRoutes.{IsRouteOf}
use Rattle.flame_flow.proofs.ways.outputs_at.Goals as goal

pub returns-in-Some : goal.returns-in-Some
returns-in-Some c =
    let model = c.args.program.now.model in
    let routes = c.routes.result.now.routes in
    let function = c.args.function in
    let route = c.in-Some.route.now in
    let count = (sym (AllZip-long (IsRouteOf model) (functions model) routes c.routes.ensures.each)) in
    let found = c.in-Some.ensures.lookup in
    let less : function < length routes = omega (arith, found.3.0, ap length c.items.ensures) in
    let place = slice_get-some (functions model) function (omega (arith, less, count)) in
    let there = slice_get_read routes (length routes) function route refl less (subst (λ list. route ≡ get_or list function route) c.items.ensures found.1) in
    c.items-in-Some.ensures
    ∙ (AllZip-at (IsRouteOf model) (functions model) routes function place.0 route c.routes.ensures.each place.1 there).outputs
    ∙ ap (λ o. outputs_at o model) (sym place.1)

pub returns-in-None : goal.returns-in-None
returns-in-None c =
    let model = c.args.program.now.model in
    let routes = c.routes.result.now.routes in
    let count = (sym (AllZip-long (IsRouteOf model) (functions model) routes c.routes.ensures.each)) in
    let over = c.in-None.ensures.lookup.3 in
    ap (λ o. outputs_at o model) (sym (slice_get_past (functions model) c.args.function (omega (arith, over, count, ap length c.items.ensures))))
