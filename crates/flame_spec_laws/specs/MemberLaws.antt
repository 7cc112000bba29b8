-- What holds of variables, functions, inputs and outputs in models without name faults. [own]
use Rattle.std.specs.Prelude.{◌≡◌, ◌≢◌, ℕ, ◌<◌, List, [], map, codes, Contains, Some, slice_get}
use Rattle.flame_ops.specs.Ascii.{capitals}
use Rattle.flame_spec.specs.declared.models.Model.{Model}
use Rattle.flame_spec.specs.declared.models.Variable.{Variable}
use Rattle.flame_spec.specs.declared.models.MessageType.{MessageType}
use Rattle.flame_spec.specs.declared.models.AgentType.{AgentType}
use Rattle.flame_spec.specs.declared.models.Function.{Function}
use Rattle.flame_spec.specs.KnownNames.{variable_names}
use Rattle.flame_spec.specs.FunctionFaults.{read_names}
use Rattle.flame_spec.specs.NameFaults.{name_faults}
use Rattle.flame_spec_laws.specs.DistinctNames.{AreDistinct}

-- the variables differ, in capitals too, and none is equal in capitals to a constant
pub record AreApart (constants : List (List ℕ)) (variables : List Variable) : Type 0 where
  pub plain : AreDistinct (variable_names variables)
  pub shouted : AreDistinct (map capitals (variable_names variables))
  pub others :
      (k : ℕ) (variable : Variable) (constant : List ℕ)
      → slice_get variables k ≡ Some variable
      → Contains constants constant
      → capitals variable.name ≢ capitals constant

-- the variables of a type differ, in capitals too, and from the constants
abbrev pub TypeVariablesDiffer : Type 0
TypeVariablesDiffer =
    (model : Model) (i : ℕ) (type : AgentType)
    → name_faults model ≡ []
    → slice_get model.agents i ≡ Some type
    → AreApart model.constants type.memory

-- the variables of a message differ
abbrev pub MessageVariablesDiffer : Type 0
MessageVariablesDiffer =
    (model : Model) (i : ℕ) (message : MessageType)
    → name_faults model ≡ []
    → slice_get model.messages i ≡ Some message
    → AreDistinct (variable_names message.variables)

-- a function reads no message twice
abbrev pub InputsDiffer : Type 0
InputsDiffer =
    (model : Model) (i j : ℕ) (type : AgentType) (function : Function)
    → name_faults model ≡ []
    → slice_get model.agents i ≡ Some type
    → slice_get type.functions j ≡ Some function
    → AreDistinct (read_names function.inputs)

-- a function outputs no message twice
abbrev pub OutputsDiffer : Type 0
OutputsDiffer =
    (model : Model) (i j : ℕ) (type : AgentType) (function : Function)
    → name_faults model ≡ []
    → slice_get model.agents i ≡ Some type
    → slice_get type.functions j ≡ Some function
    → AreDistinct function.outputs

-- functions of different types differ, but for `idle`
abbrev pub FunctionsOfTypesDiffer : Type 0
FunctionsOfTypesDiffer =
    (model : Model) (i j k l : ℕ) (type other : AgentType) (function another : Function)
    → name_faults model ≡ []
    → i < j
    → slice_get model.agents i ≡ Some type
    → slice_get model.agents j ≡ Some other
    → slice_get type.functions k ≡ Some function
    → slice_get other.functions l ≡ Some another
    → function.name ≡ another.name
    → function.name ≡ codes "idle"

-- transitions of a type differ: in their names, in the states that they leave, or in those that they enter
abbrev pub TransitionsDiffer : Type 0
TransitionsDiffer =
    (model : Model) (i j k : ℕ) (type : AgentType) (function another : Function)
    → name_faults model ≡ []
    → slice_get model.agents i ≡ Some type
    → j < k
    → slice_get type.functions j ≡ Some function
    → slice_get type.functions k ≡ Some another
    → function.name ≡ another.name
    → function.current ≡ another.current
    → function.next ≡ another.next
    → ⊥
