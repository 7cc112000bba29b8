-- The model that a value stands for, object by object. It is the value's where the value has no shape fault.
use Rattle.std.specs.Prelude.{ℕ, List, [], map, codes, ℤ, pos, Bool, false, if◌then◌else◌, Option, Some, None}
use Rattle.std.specs.Prelude.{unwrap_or, option_map}
use Rattle.serde_json.specs.Data.{Data}
use Rattle.flame_spec.specs.declared.models.Model.{Model}
use Rattle.flame_spec.specs.declared.models.TimeUnit.{TimeUnit}
use Rattle.flame_spec.specs.declared.models.Variable.{Variable}
use Rattle.flame_spec.specs.declared.models.MessageType.{MessageType}
use Rattle.flame_spec.specs.declared.models.AgentType.{AgentType}
use Rattle.flame_spec.specs.declared.models.Function.{Function}
use Rattle.flame_spec.specs.declared.models.Input.{Input}
use Rattle.flame_spec.specs.declared.models.Sort.{Sort}
use Rattle.flame_xmml.specs.declared.reader.Environment.{Environment}
use Rattle.flame_xmml.specs.ValueParts.{part, has, members}
use Rattle.flame_xmml.specs.Wants.{name_of, filled_of, positive_of, length_of, truth_of, order_of}
use Rattle.flame_xmml.specs.ConditionShapes.{condition_of}

-- ---- what stands at keys

-- the name at a key [XMML]
abbrev pub name_at : List ℕ → Data → List ℕ
name_at key value = unwrap_or (name_of (part key value)) []

-- a text of at least one byte [XMML]
abbrev pub filled : Data → List ℕ
filled value = unwrap_or (filled_of value) []

-- the text of at least one byte at a key [XMML]
abbrev pub filled_at : List ℕ → Data → List ℕ
filled_at key value = filled (part key value)

-- the period of a time unit [XMML]
abbrev pub period_at : Data → ℤ
period_at value = unwrap_or (positive_of (part (codes "period") value)) (pos 1)

-- the length of an array, if there is one [own]
abbrev pub length_at : Data → Option ℕ
length_at value = length_of (part (codes "length") value)

-- whether a random order is asked for; it is not where that is missing [XMML]
abbrev pub random_at : Data → Bool
random_at value = unwrap_or (truth_of (part (codes "random") value)) false

-- whether the greatest comes first [XMML]
abbrev pub descending_at : Data → Bool
descending_at value = unwrap_or (order_of (part (codes "order") value)) false

-- what the members of the list at a key stand for; none where the list is missing [XMML]
abbrev pub list_at : {X : Type 0} → (Data → X) → List ℕ → Data → List X
list_at read key value = map read (unwrap_or (members (part key value)) [])

-- what stands at a key, if something does [own]
abbrev pub there : List ℕ → Data → Option Data
there key value = if has key value then Some (part key value) else None

-- ---- the objects

-- a variable of type int, or an array of them [XMML]
abbrev pub variable_of : Data → Variable
variable_of value = record { name = name_at (codes "name") value; length = length_at value }

-- a time unit [XMML]
abbrev pub unit_of : Data → TimeUnit
unit_of value = record {
  name = name_at (codes "name") value;
  unit = name_at (codes "unit") value;
  period = period_at value;
}

-- a message type [XMML]
abbrev pub message_of : Data → MessageType
message_of value = record {
  name = name_at (codes "name") value;
  variables = list_at variable_of (codes "variables") value;
}

-- a sort of an input [XMML]
abbrev pub sort_of : Data → Sort
sort_of value = record {
  key = name_at (codes "key") value;
  descending = descending_at value;
}

-- an input [XMML]
abbrev pub input_of : Data → Input
input_of value = record {
  message = name_at (codes "messageName") value;
  random = random_at value;
  filter = option_map condition_of (there (codes "filter") value);
  sort = option_map sort_of (there (codes "sort") value);
}

-- a function [XMML]
abbrev pub function_of : Data → Function
function_of value = record {
  name = name_at (codes "name") value;
  current = filled_at (codes "currentState") value;
  next = filled_at (codes "nextState") value;
  condition = option_map condition_of (there (codes "condition") value);
  inputs = list_at input_of (codes "inputs") value;
  outputs = list_at (name_at (codes "messageName")) (codes "outputs") value;
}

-- an agent type [XMML]
abbrev pub agent_of : Data → AgentType
agent_of value = record {
  name = name_at (codes "name") value;
  memory = list_at variable_of (codes "memory") value;
  functions = list_at function_of (codes "functions") value;
}

-- the environment; of a missing one each list is empty [XMML]
abbrev pub environment_of : Data → Environment
environment_of value = record {
  constants = list_at (name_at (codes "name")) (codes "constants") value;
  files = list_at filled (codes "functionFiles") value;
  units = list_at unit_of (codes "timeUnits") value;
}

-- the model [XMML]
abbrev pub xmodel_of : Data → Model
xmodel_of value =
    let environment = environment_of (part (codes "environment") value) in
    record {
      constants = environment.constants;
      files = environment.files;
      units = environment.units;
      messages = list_at message_of (codes "messages") value;
      agents = list_at agent_of (codes "agents") value;
    }

-- the model of the whole value [XMML]
abbrev pub model_of : Data → Model
model_of value = xmodel_of (part (codes "xmodel") value)
