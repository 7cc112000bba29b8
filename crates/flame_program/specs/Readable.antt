-- What can be read by columns: conditions of functions, and filters and keys of inputs.
use Rattle.std.specs.Prelude.{◌≡◌, ℕ, ◌<◌, ◌^◌, List, Option, Some, slice_get}
use Rattle.flame_spec.specs.declared.conditions.Condition.{Condition}
use Rattle.flame_spec.specs.declared.models.AgentType.{AgentType}
use Rattle.flame_spec.specs.declared.models.Input.{Input}
use Rattle.flame_spec.specs.declared.models.MessageType.{MessageType}
use Rattle.flame_spec.specs.declared.models.Model.{Model}
use Rattle.flame_spec.specs.declared.models.TimeUnit.{TimeUnit}
use Rattle.flame_spec.specs.Columns.{width}
use Rattle.flame_spec.specs.Conditions.{agent_scope, input_scope, IsReadable}
use Rattle.flame_spec.specs.Functions.{Place}
use Rattle.flame_meaning.specs.Outcomes.{message_named}

-- a condition of a function of this type, if there is one [own]
abbrev pub IsReadableCondition : AgentType → List TimeUnit → Option Condition → Type 0
IsReadableCondition type units condition =
    (written : Condition) → condition ≡ Some written → IsReadable (agent_scope type units) written

-- a filter of an input of this message by a function of this type, if there is one [own]
abbrev pub IsReadableFilter : AgentType → MessageType → Option Condition → Type 0
IsReadableFilter type message filter =
    (written : Condition) → filter ≡ Some written → IsReadable (input_scope type message) written

-- the filter and the key of an input can be read by columns, over the message that its name finds [own]
pub record IsReadableInput (model : Model) (type : AgentType) (input : Input) : Type 0 where
  pub filter : (number : ℕ) (message : MessageType) → message_named model.messages input.message ≡ Some (number, message)
      → IsReadableFilter type message input.filter
  pub sort : (number : ℕ) (message : MessageType) → message_named model.messages input.message ≡ Some (number, message)
      → width message.variables < 2 ^ 32

-- the filter and the key of each of these inputs can be read by columns [own]
abbrev pub AreReadableInputs : Model → AgentType → List Input → Type 0
AreReadableInputs model type inputs =
    (k : ℕ) (input : Input) → slice_get inputs k ≡ Some input → IsReadableInput model type input

-- the condition of the function of this place can be read by columns, and so can the filters and keys of its inputs
-- [own]
pub record IsReadableFunction (model : Model) (place : Place) : Type 0 where
  pub condition : IsReadableCondition place.type model.units place.function.condition
  pub inputs : AreReadableInputs model place.type place.function.inputs

-- so it is with each of these functions [own]
abbrev pub AreReadableFunctions : Model → List Place → Type 0
AreReadableFunctions model places =
    (n : ℕ) (place : Place) → slice_get places n ≡ Some place → IsReadableFunction model place
