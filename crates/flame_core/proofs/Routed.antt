-- Routes of a program, function by function.
use Rattle.std.proofs.Common.{◌≡◌, ℕ, ◌<◌, length, get_or, sym, ap, ◌∙◌, arith, refl}
use Rattle.std.proofs.lemmas.Option.{slice_get_read}
use Rattle.std.proofs.lemmas.Slice.Zip.{AllZip-long}
use Rattle.flame_rows.proofs.Lists.{AllZip-at}
use Rattle.flame_spec.specs.declared.models.Model.{Model}
use Rattle.flame_spec.specs.Before.{function_count}
use Rattle.flame_spec.specs.Functions.{functions}
use Rattle.flame_meaning.specs.Outcomes.{outputs_at}
use Rattle.flame_events.specs.LegalEvents.{outputs_of}
use Rattle.flame_route.specs.declared.routes.Route.{Route}
use Rattle.flame_route.specs.declared.routes.Routes.{Routes}
use Rattle.flame_route.specs.ModelRoutes.{AreRoutesOf, IsRouteOf}
use Rattle.flame_round.specs.KeptRounds.{GoesBy}
use Rattle.flame_round.proofs.Gets.{has-at}

pub routes_many : (model : Model) (routes : Routes) → AreRoutesOf model routes → function_count model ≡ length routes.routes
routes_many model routes are = (sym (AllZip-long (IsRouteOf model) (functions model) routes.routes are.each))

pub goes_at : (model : Model) (routes : Routes) → AreRoutesOf model routes → (f : ℕ) (route : Route) → f < function_count model
    → route ≡ get_or routes.routes f route → GoesBy model f route
goes_at model routes are f route less at =
    let found = has-at (functions model) f less in
    let there = slice_get_read routes.routes (length routes.routes) f route refl (omega (arith, less, routes_many model routes are)) at in
    record {
      place = found.item;
      there = found.there;
      routed = AllZip-at (IsRouteOf model) (functions model) routes.routes f found.item route are.each found.there there;
      choice = are.choices f found.item route found.there there;
    }

pub outputs_are : (model : Model) (f : ℕ) (route : Route) (goes : GoesBy model f route) → route.outputs ≡ outputs_of model f
outputs_are model f route goes = goes.routed.outputs ∙ ap (λ o. outputs_at o model) (sym goes.there)
