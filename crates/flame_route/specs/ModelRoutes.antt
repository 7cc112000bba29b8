-- The routes of a model: how the agents of its functions go.
use Rattle.std.specs.Prelude.{◌≡◌, ℕ, List, map, length, Some, option_map, slice_get, not}
use Rattle.std.specs.List.{AllZip, position_or_len}
use Rattle.flame_spec.specs.declared.models.AgentType.{AgentType}
use Rattle.flame_spec.specs.declared.models.Function.{Function}
use Rattle.flame_spec.specs.declared.models.Input.{Input}
use Rattle.flame_spec.specs.declared.models.MessageType.{MessageType}
use Rattle.flame_spec.specs.declared.models.Model.{Model}
use Rattle.flame_spec.specs.Choice.{functions_out}
use Rattle.flame_spec.specs.Functions.{Place, functions}
use Rattle.flame_spec.specs.States.{is_entered, states, state_place}
use Rattle.flame_meaning.specs.Outcomes.{message_named, outputs_at}
use Rattle.flame_route.specs.declared.routes.Route.{Route}
use Rattle.flame_route.specs.declared.routes.Routes.{Routes}

-- the input reads this message of the model [XMML]
pub record ReadsMessageOf (model : Model) (input : Input) : Type 0 where
  pub found : ℕ × MessageType
  pub named : message_named model.messages input.message ≡ Some found

-- each input of the function reads a message of the model [XMML]
pub record ReadsEach (model : Model) (function : Function) : Type 0 where
  pub each : (i : ℕ) (input : Input) → slice_get function.inputs i ≡ Some input → ReadsMessageOf model input

-- each input of each function of the model reads a message of it [XMML]
abbrev pub ReadMessages : Model → Type 0
ReadMessages model =
    (function : ℕ) (place : Place) → slice_get (functions model) function ≡ Some place → ReadsEach model place.function

-- the route of the function that stands in this place, but for its choice: its type, the states that it leaves and enters
-- among those of the type, the message that each input reads, and those that it adds [FLAME User Manual]
pub record IsRouteOf (model : Model) (place : Place) (route : Route) : Type 0 where
  pub agent : route.agent ≡ place.agent
  pub from : route.from ≡ state_place place.type place.function.current
  pub to : route.to ≡ state_place place.type place.function.next
  pub inputs :
      map (λ input. option_map (λ found. found.0) (message_named model.messages input.message)) place.function.inputs
      ≡ map Some route.inputs
  pub outputs : route.outputs ≡ outputs_at (Some place) model

-- for each state of each type the functions out of it, by number [own]
abbrev pub AreLeaving : Model → List (List (List ℕ)) → Type 0
AreLeaving model leaving =
    (length leaving ≡ length model.agents)
    × ((agent : ℕ) (type : AgentType) (out : List (List ℕ))
    → slice_get model.agents agent ≡ Some type
    → slice_get leaving agent ≡ Some out
    → out ≡ map (functions_out model agent) (states type.functions))

-- each function stands in its choice among those out of the state that it leaves [own]
abbrev pub HaveChoices : Model → List Route → Type 0
HaveChoices model routes =
    (function : ℕ) (place : Place) (route : Route)
    → slice_get (functions model) function ≡ Some place
    → slice_get routes function ≡ Some route
    → slice_get (functions_out model place.agent place.function.current) route.choice ≡ Some function

-- the place of a type's start state among its states: the first that no function enters [own]
abbrev pub start_place : AgentType → ℕ
start_place type = position_or_len (λ state. not (is_entered type.functions state)) (states type.functions)

-- the routes of all functions of the model, in document order, the functions out of each state, and where the agents of
-- each type start [own]
pub record AreRoutesOf (model : Model) (routes : Routes) : Type 0 where
  pub each : AllZip (IsRouteOf model) (functions model) routes.routes
  pub choices : HaveChoices model routes.routes
  pub leaving : AreLeaving model routes.leaving
  pub starts : routes.starts ≡ map start_place model.agents
