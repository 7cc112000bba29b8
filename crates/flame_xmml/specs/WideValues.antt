-- The model file with data types and nested files that a value stands for, object by object. It is the value's where the
-- value has no shape fault of the wide form. What a plain model file has too stands for the same as there.
use Rattle.std.specs.Prelude.{ℕ, List, [], ◌∷◌, codes, Bool, true, if◌then◌else◌, unwrap_or}
use Rattle.serde_json.specs.Data.{Data}
use Rattle.flame_spec.specs.declared.wide.Wide.{Wide}
use Rattle.flame_spec.specs.declared.wide.WideVariable.{WideVariable}
use Rattle.flame_spec.specs.declared.wide.DataType.{DataType}
use Rattle.flame_spec.specs.declared.wide.WideMessage.{WideMessage}
use Rattle.flame_spec.specs.declared.wide.WideAgent.{WideAgent}
use Rattle.flame_xmml.specs.declared.rows.Nested.{Nested}
use Rattle.flame_xmml.specs.ValueParts.{part}
use Rattle.flame_xmml.specs.Wants.{truth_of}
use Rattle.flame_xmml.specs.Models.{name_at, filled_at, length_at, list_at, function_of, environment_of}

-- a variable of int or of a data type, or an array [XMML]
abbrev pub wide_variable_of : Data → WideVariable
wide_variable_of value = record {
  name = name_at (codes "name") value;
  kind = name_at (codes "type") value;
  length = length_at value;
}

-- a data type [XMML]
abbrev pub type_of : Data → DataType
type_of value = record {
  name = name_at (codes "name") value;
  variables = list_at wide_variable_of (codes "variables") value;
}

-- a message type [XMML]
abbrev pub wide_message_of : Data → WideMessage
wide_message_of value = record {
  name = name_at (codes "name") value;
  variables = list_at wide_variable_of (codes "variables") value;
}

-- an agent type [XMML]
abbrev pub wide_agent_of : Data → WideAgent
wide_agent_of value = record {
  name = name_at (codes "name") value;
  memory = list_at wide_variable_of (codes "memory") value;
  functions = list_at function_of (codes "functions") value;
}

-- whether a file that is named is taken in; it is where that is missing [XMML]
abbrev pub enabled_at : Data → Bool
enabled_at value = unwrap_or (truth_of (part (codes "enabled") value)) true

-- a model file that is named [XMML]
abbrev pub nested_of : Data → Nested
nested_of value = record { file = filled_at (codes "file") value; enabled = enabled_at value }

-- the names of those that are taken in [XMML]
abbrev pub enabled_files : List Nested → List (List ℕ)
enabled_files [] = []
enabled_files (nested ∷ more) = if nested.enabled then nested.file ∷ enabled_files more else enabled_files more

-- what stands at `xmodel` [XMML]
abbrev pub wide_xmodel_of : Data → Wide
wide_xmodel_of value =
    let environment = part (codes "environment") value in
    let lists = environment_of environment in
    record {
      constants = lists.constants;
      files = lists.files;
      units = lists.units;
      types = list_at type_of (codes "dataTypes") environment;
      messages = list_at wide_message_of (codes "messages") value;
      agents = list_at wide_agent_of (codes "agents") value;
      nested = enabled_files (list_at nested_of (codes "models") value);
    }

-- the model file of the whole value [XMML]
abbrev pub wide_of : Data → Wide
wide_of value = wide_xmodel_of (part (codes "xmodel") value)
