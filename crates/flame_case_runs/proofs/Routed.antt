-- What the routes of a model tell of the function of a number, which may have none.
use Rattle.std.proofs.Common.{◌≡◌, ℕ, zero, suc, List, [], ◌∷◌, map, Option, Some, None, refl, sym, ap, ◌∙◌, subst}
use Rattle.std.specs.Prelude.{ℤ, slice_get, slice_index_or}
use Rattle.std.specs.List.{AllZip}
use Rattle.flame_spec.specs.declared.models.Model.{Model}
use Rattle.flame_spec.specs.Functions.{Place, functions}
use Rattle.flame_meaning.specs.Outcomes.{outputs_at}
use Rattle.flame_route.specs.declared.routes.Route.{Route}
use Rattle.flame_route.specs.declared.routes.Routes.{Routes}
use Rattle.flame_route.specs.ModelRoutes.{AreRoutesOf, IsRouteOf}
use Rattle.flame_world.specs.InputBoards.{boards_named}
use Rattle.flame_round.proofs.NamedNumbers.{named-numbers}

-- ---- two lists, place by place

-- what stands beside an element
record Beside {X Y : Type 0} (R : X → Y → Type 0) (xs : List X) (k : ℕ) (y : Y) : Type 0 where
  pub item : X
  pub there : slice_get xs k ≡ Some item
  pub related : R item y

beside : {X Y : Type 0} (R : X → Y → Type 0) (xs : List X) (ys : List Y) (k : ℕ) (y : Y)
    → AllZip R xs ys → slice_get ys k ≡ Some y → Beside R xs k y
beside R [] [] k y all at = absurd cc
beside R [] (z ∷ ys) k y all at = absurd all
beside R (x ∷ xs) [] k y all at = absurd all
beside R (x ∷ xs) (z ∷ ys) zero y all at =
    let same : z ≡ y = cc in
    record { item = x; there = refl; related = subst (R x) same all.0 }
beside R (x ∷ xs) (z ∷ ys) (suc k) y all at =
    let later = beside R xs ys k y all.1 at in
    record { item = later.item; there = later.there; related = later.related }

nothing_beside : {X Y : Type 0} (R : X → Y → Type 0) (xs : List X) (ys : List Y) (k : ℕ)
    → AllZip R xs ys → slice_get ys k ≡ None → slice_get xs k ≡ None
nothing_beside R [] ys k all at = refl
nothing_beside R (x ∷ xs) [] k all at = absurd all
nothing_beside R (x ∷ xs) (z ∷ ys) zero all at = absurd cc
nothing_beside R (x ∷ xs) (z ∷ ys) (suc k) all at = nothing_beside R xs ys k all.1 at

-- ---- the function of a number

module _ (model : Model) (routes : Routes) (function : ℕ) (are : AreRoutesOf model routes) where
  -- its boards are those that its inputs name
  pub inputs-there : (route : Route) (boards : List (List (List ℤ)))
      → slice_get routes.routes function ≡ Some route
      → map (λ message. slice_index_or boards message []) route.inputs
      ≡ boards_named (slice_get (functions model) function) model boards
  inputs-there route boards at =
      let place = beside (IsRouteOf model) (functions model) routes.routes function route are.each at in
      named-numbers model boards place.item.function.inputs route.inputs place.related.inputs
      ∙ ap (λ (p : Option Place). boards_named p model boards) (sym place.there)

  -- its outputs are numbered
  pub outputs-there : (route : Route)
      → slice_get routes.routes function ≡ Some route
      → route.outputs ≡ outputs_at (slice_get (functions model) function) model
  outputs-there route at =
      let place = beside (IsRouteOf model) (functions model) routes.routes function route are.each at in
      place.related.outputs ∙ ap (λ (p : Option Place). outputs_at p model) (sym place.there)

  -- without a route there is no such function
  pub nowhere : slice_get routes.routes function ≡ None → slice_get (functions model) function ≡ None
  nowhere at = nothing_beside (IsRouteOf model) (functions model) routes.routes function are.each at
