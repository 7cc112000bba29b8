-- What acceptance gives to conditions and filters: they can be read by columns. [own]
use Rattle.std.specs.Prelude.{◌≡◌, ℕ, ◌<◌, ◌^◌, IsTrue, Some, slice_get}
use Rattle.flame_spec.specs.declared.conditions.Condition.{Condition}
use Rattle.flame_spec.specs.declared.models.MessageType.{MessageType}
use Rattle.flame_spec.specs.declared.models.AgentType.{AgentType}
use Rattle.flame_spec.specs.declared.models.Function.{Function}
use Rattle.flame_spec.specs.declared.models.Input.{Input}
use Rattle.flame_spec.specs.declared.outcomes.Source.{Source}
use Rattle.flame_spec.specs.Columns.{width}
use Rattle.flame_spec.specs.Conditions.{agent_scope, input_scope, IsReadable}
use Rattle.flame_spec.specs.Counted.{is_counted}
use Rattle.flame_spec.specs.Accepted.{IsAccepted}

-- the condition of a function of an accepted source can be read, where the memory is not too wide for columns
abbrev pub ConditionsAreReadable : Type 0
ConditionsAreReadable =
    (source : Source) (i j : ℕ) (type : AgentType) (function : Function) (condition : Condition)
    → IsAccepted source
    → slice_get source.model.agents i ≡ Some type
    → slice_get type.functions j ≡ Some function
    → function.condition ≡ Some condition
    → width type.memory < 2 ^ 32
    → IsReadable (agent_scope type source.model.units) condition

-- the filter of an input of an accepted source can be read, where the memory and the message are not too wide for
-- columns
abbrev pub FiltersAreReadable : Type 0
FiltersAreReadable =
    (source : Source) (i j k : ℕ) (type : AgentType) (function : Function) (input : Input) (filter : Condition)
    (message : MessageType)
    → IsAccepted source
    → slice_get source.model.agents i ≡ Some type
    → slice_get type.functions j ≡ Some function
    → slice_get function.inputs k ≡ Some input
    → input.filter ≡ Some filter
    → width type.memory < 2 ^ 32
    → width message.variables < 2 ^ 32
    → IsReadable (input_scope type message) filter

-- where the parts of an accepted source's model can be numbered, each condition of a function can be read
abbrev pub CountedConditionsAreReadable : Type 0
CountedConditionsAreReadable =
    (source : Source) (i j : ℕ) (type : AgentType) (function : Function) (condition : Condition)
    → IsAccepted source
    → IsTrue (is_counted source.model)
    → slice_get source.model.agents i ≡ Some type
    → slice_get type.functions j ≡ Some function
    → function.condition ≡ Some condition
    → IsReadable (agent_scope type source.model.units) condition

-- and so can each filter of an input, over each message of the model
abbrev pub CountedFiltersAreReadable : Type 0
CountedFiltersAreReadable =
    (source : Source) (i j k m : ℕ) (type : AgentType) (function : Function) (input : Input) (filter : Condition)
    (message : MessageType)
    → IsAccepted source
    → IsTrue (is_counted source.model)
    → slice_get source.model.agents i ≡ Some type
    → slice_get type.functions j ≡ Some function
    → slice_get function.inputs k ≡ Some input
    → input.filter ≡ Some filter
    → slice_get source.model.messages m ≡ Some message
    → IsReadable (input_scope type message) filter
