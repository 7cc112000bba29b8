use Rattle.std.proofs.Common.{◌≡◌, ap, arith, get_or, length, refl, subst, sym}
use Rattle.std.proofs.lemmas.Option.{slice_get_read}
use Rattle.std.proofs.lemmas.Slice.Zip.{AllZip-long}
use Rattle.flame_rows.proofs.Lists.{AllZip-at}
use Rattle.flame_spec.specs.Functions.{functions}
use Rattle.flame_route.specs.ModelRoutes.{IsRouteOf}
use Rattle.flame_share.proofs.parts.route_of.Goals as goal

pub bounds-items-function : goal.bounds-items-function
bounds-items-function c =
    let model = c.args.program.now.model in
    let routes = c.routes.result.now.routes in
    omega (arith, c.requires, (sym (AllZip-long (IsRouteOf model) (functions model) routes c.routes.ensures.each)), ap length c.items.ensures)

pub returns : goal.returns
returns c = λ place at.
    let model = c.args.program.now.model in
    let routes = c.routes.result.now.routes in
    let function = c.args.function in
    let route = c.index-items-function.result in
    let count = (sym (AllZip-long (IsRouteOf model) (functions model) routes c.routes.ensures.each)) in
    let there = slice_get_read routes (length routes) function route refl (omega (arith, c.requires, count))
    (subst (λ list. route ≡ get_or list function route) c.items.ensures c.index-items-function.is) in
    AllZip-at (IsRouteOf model) (functions model) routes function place route c.routes.ensures.each at there
