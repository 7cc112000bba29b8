-- The routes of the functions of one agent type.
use Rattle.std.specs.Prelude.{◌≡◌, ℕ, ◌+◌, List, ◌++◌, length, map, take, drop, Some, slice_get}
use Rattle.std.specs.List.{AllZip}
use Rattle.std.specs.Str.{bytes_eq}
use Rattle.flame_spec.specs.declared.models.AgentType.{AgentType}
use Rattle.flame_spec.specs.declared.models.Function.{Function}
use Rattle.flame_spec.specs.declared.models.Model.{Model}
use Rattle.flame_spec.specs.Functions.{at_type}
use Rattle.flame_spec.specs.Lists.{numbers_from}
use Rattle.flame_spec.specs.States.{states}
use Rattle.flame_route.specs.declared.routes.Route.{Route}
use Rattle.flame_route.specs.ModelRoutes.{ReadsEach, IsRouteOf}

-- each input of each of these functions reads a message of the model [own]
abbrev pub ReadsAll : Model → List Function → Type 0
ReadsAll model functions =
    (i : ℕ) (function : Function) → slice_get functions i ≡ Some function → ReadsEach model function

-- the numbers of these functions, which are numbered from `first`, that leave the state [own]
abbrev pub numbers_out : ℕ → List Function → List ℕ → List ℕ
numbers_out first functions state = numbers_from (λ function. bytes_eq function.current state) first functions

-- the routes of the functions of the type of this number, of which the first has the number `first`; and for each state
-- of the type the functions out of it [own]
pub record AreTypeRoutes
    (model : Model) (agent : ℕ) (type : AgentType) (first : ℕ) (routes : List Route) (leaving : List (List ℕ)) :
    Type 0 where
  pub each : AllZip (IsRouteOf model) (map (at_type agent type) type.functions) routes
  pub choices : (i : ℕ) (function : Function) (route : Route)
      → slice_get type.functions i ≡ Some function
      → slice_get routes i ≡ Some route
      → slice_get (numbers_out first type.functions function.current) route.choice ≡ Some (first + i)
  pub lists : leaving ≡ map (numbers_out first type.functions) (states type.functions)

-- the routes of the first i of these functions, where these numbers stand under each state [own]
pub record AreTaken
    (model : Model) (agent : ℕ) (type : AgentType) (first i : ℕ) (routes : List Route) (under : List ℕ → List ℕ) :
    Type 0 where
  pub each : AllZip (IsRouteOf model) (take i (map (at_type agent type) type.functions)) routes
  pub count : length routes ≡ i
  pub choices : (j : ℕ) (function : Function) (route : Route)
      → slice_get type.functions j ≡ Some function
      → slice_get routes j ≡ Some route
      → slice_get (numbers_out first type.functions function.current) route.choice ≡ Some (first + j)
  pub rest : (state : List ℕ)
      → under state ++ numbers_out (first + i) (drop i type.functions) state ≡ numbers_out first type.functions state
