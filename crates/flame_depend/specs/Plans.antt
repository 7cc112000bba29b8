-- What `plan` answers.
use Rattle.std.specs.Prelude.{◌≡◌, ℕ, List, [], ◌∷◌, map, None, Some, IsSome}
use Rattle.flame_spec.specs.declared.models.Model.{Model}
use Rattle.flame_spec.specs.declared.models.AgentType.{AgentType}
use Rattle.flame_spec.specs.States.{start_states, many_starts, many_from}
use Rattle.flame_spec.specs.ModelOrder.{model_order, left_over, model_cycle}
use Rattle.flame_spec.specs.Layers.{model_layers}
use Rattle.flame_depend.specs.declared.plans.Plan.{Plan}
use Rattle.flame_depend.specs.declared.faults.DependFault.{DependFault}
use Rattle.flame_depend.specs.declared.faults.DependFault.TheVariants.{Cycle, Starts}
use Rattle.flame_rows.specs.declared.fails.Fail.{Fail}
use Rattle.flame_rows.specs.declared.fails.Fail.TheVariants.{Fault, NoMemory}
use Rattle.flame_depend.specs.declared.starts.Found.{Found}
use Rattle.flame_depend.specs.declared.starts.Found.TheVariants.{Lone, Many}

-- the list of one state [own]
abbrev pub lone : List ℕ → List (List ℕ)
lone state = state ∷ []

-- the start states of a type [own]
abbrev pub starts_of : AgentType → List (List ℕ)
starts_of type = start_states type.functions

-- no function is left over, the order and the layers are those of the model, and each type has one start state, this
-- [own]
pub record IsPlan (model : Model) (plan : Plan) : Type 0 where
  pub acyclic : left_over model ≡ None
  pub order : plan.order ≡ model_order model
  pub layers : plan.layers ≡ model_layers model
  pub starts : map lone plan.starts ≡ map starts_of model.agents

-- a function is left over, and these are the cycle; or none is, and this is the first type with two start states [own]
abbrev pub IsFault : Model → DependFault → Type 0
IsFault model (Cycle fault) = IsSome (left_over model) × (fault.functions ≡ model_cycle model)
IsFault model (Starts fault) = (left_over model ≡ None) × (many_starts model ≡ Some (fault.agent, fault.states))

-- the model has this fault, or memory was not found [own]
abbrev pub FailsBy : Model → Fail DependFault → Type 0
FailsBy model (Fault fault) = IsFault model fault
FailsBy model NoMemory = Unit {0}

-- each type has one start state, this, or this is the first type with two [own]
abbrev pub AreStarts : List AgentType → Found → Type 0
AreStarts types (Lone states) = map lone states.items ≡ map starts_of types
AreStarts types (Many fault) = many_from 0 types ≡ Some (fault.agent, fault.states)
