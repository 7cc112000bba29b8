use Rattle.std.proofs.Common.{◌≡◌, ap, arith, get_or, length, subst, refl, sym}
use Rattle.std.proofs.lemmas.Option.{slice_get_read}
use Rattle.std.proofs.lemmas.Slice.Zip.{AllZip-long}
use Rattle.flame_rows.proofs.Lists.{AllZip-at}
use Rattle.flame_spec.specs.Functions.{functions}
use Rattle.flame_route.specs.ModelRoutes.{IsRouteOf}
use Rattle.flame_round.proofs.Gets.{has-at}
use Rattle.flame_round.proofs.routes.route_of.Goals as goal

pub bounds-items-function : goal.bounds-items-function
bounds-items-function c =
    let model = c.args.round.now.program.now.model in
    let routes = c.routes.result.now.routes in
    omega (arith, c.requires, (sym (AllZip-long (IsRouteOf model) (functions model) routes c.routes.ensures.each)), ap length c.items.ensures)

pub returns : goal.returns
returns c =
    let model = c.args.round.now.program.now.model in
    let routes = c.routes.result.now.routes in
    let function = c.args.function in
    let route = c.index-items-function.result in
    let found = has-at (functions model) function c.requires in
    let count = (sym (AllZip-long (IsRouteOf model) (functions model) routes c.routes.ensures.each)) in
    let there = slice_get_read routes (length routes) function route refl (omega (arith, c.requires, count)) (subst (λ list. route ≡ get_or list function route) c.items.ensures c.index-items-function.is) in
    record {
      place = found.item;
      there = found.there;
      routed = AllZip-at (IsRouteOf model) (functions model) routes function found.item route c.routes.ensures.each found.there there;
      choice = c.routes.ensures.choices function found.item route found.there there;
    }
