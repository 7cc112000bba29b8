-- The shape faults of a model's value, object by object: all of them, in walking order. A model file by itself is plain;
-- a wide one may have data types and name further model files.
use Rattle.std.specs.Prelude.{ℕ, List, ◌++◌, codes, false, true}
use Rattle.serde_json.specs.Data.{Data}
use Rattle.flame_spec.specs.Paths.{root}
use Rattle.flame_xmml.specs.declared.faults.Shape.{Shape}
use Rattle.flame_xmml.specs.ValueParts.{required, optional, object_faults, list_faults}
use Rattle.flame_xmml.specs.LeafShapes.{empty_faults, name_faults, state_faults, file_faults, int_faults}
use Rattle.flame_xmml.specs.LeafShapes.{positive_faults, length_faults}
use Rattle.flame_xmml.specs.LeafShapes.{truth_faults, order_faults}
use Rattle.flame_xmml.specs.ConditionShapes.{condition_faults}

-- ---- variables: `type`, `name` and, in a row, `length`

-- what stands in a variable whose type has these faults [XMML]
abbrev pub typed_keys : (List ℕ → Data → List Shape) → List ℕ → Data → List Shape
typed_keys kind path value =
    required kind (codes "type") path value
    ++ required name_faults (codes "name") path value

-- a constant [XMML]
abbrev pub constant_faults : List ℕ → Data → List Shape
constant_faults = object_faults (typed_keys int_faults)

-- what stands in a variable of a row, whose type has these faults [XMML; `length`: own]
abbrev pub variable_keys : (List ℕ → Data → List Shape) → List ℕ → Data → List Shape
variable_keys kind path value = typed_keys kind path value ++ optional length_faults (codes "length") path value

-- a variable of a row [XMML]
abbrev pub variable_faults : (List ℕ → Data → List Shape) → List ℕ → Data → List Shape
variable_faults kind = object_faults (variable_keys kind)

-- ---- rows: `name` and `variables`

-- what stands in a message type or a data type whose variables have these faults [XMML]
abbrev pub row_keys : (List ℕ → Data → List Shape) → List ℕ → Data → List Shape
row_keys variable path value =
    required name_faults (codes "name") path value
    ++ optional (list_faults variable) (codes "variables") path value

-- a message type or a data type [XMML]
abbrev pub row_faults : (List ℕ → Data → List Shape) → List ℕ → Data → List Shape
row_faults variable = object_faults (row_keys variable)

-- ---- the environment: `constants`, `functionFiles`, `timeUnits` and `dataTypes`

-- what stands in a time unit [XMML]
abbrev pub unit_keys : List ℕ → Data → List Shape
unit_keys path value =
    required name_faults (codes "name") path value
    ++ required name_faults (codes "unit") path value
    ++ required positive_faults (codes "period") path value

-- a time unit [XMML]
abbrev pub unit_faults : List ℕ → Data → List Shape
unit_faults = object_faults unit_keys

-- the lists of the environment that each model file may have [XMML]
abbrev pub environment_lists : List ℕ → Data → List Shape
environment_lists path value =
    optional (list_faults constant_faults) (codes "constants") path value
    ++ optional (list_faults file_faults) (codes "functionFiles") path value
    ++ optional (list_faults unit_faults) (codes "timeUnits") path value

-- what stands in the environment, where data types have these faults [XMML]
abbrev pub environment_keys : (List ℕ → Data → List Shape) → List ℕ → Data → List Shape
environment_keys types path value = environment_lists path value ++ optional types (codes "dataTypes") path value

-- the environment [XMML]
abbrev pub environment_faults : (List ℕ → Data → List Shape) → List ℕ → Data → List Shape
environment_faults types = object_faults (environment_keys types)

-- ---- a function: `name`, `currentState`, `nextState`, `condition`, `inputs` and `outputs`

-- what stands in a sort of an input [XMML]
abbrev pub sort_keys : List ℕ → Data → List Shape
sort_keys path value =
    required name_faults (codes "key") path value
    ++ required order_faults (codes "order") path value

-- a sort of an input [XMML]
abbrev pub sort_faults : List ℕ → Data → List Shape
sort_faults = object_faults sort_keys

-- what stands in an input [XMML]
abbrev pub input_keys : List ℕ → Data → List Shape
input_keys path value =
    required name_faults (codes "messageName") path value
    ++ optional truth_faults (codes "random") path value
    ++ optional (condition_faults true) (codes "filter") path value
    ++ optional sort_faults (codes "sort") path value

-- an input [XMML]
abbrev pub input_faults : List ℕ → Data → List Shape
input_faults = object_faults input_keys

-- what stands in an output [XMML]
abbrev pub output_keys : List ℕ → Data → List Shape
output_keys = required name_faults (codes "messageName")

-- an output [XMML]
abbrev pub output_faults : List ℕ → Data → List Shape
output_faults = object_faults output_keys

-- what stands in a function [XMML]
abbrev pub function_keys : List ℕ → Data → List Shape
function_keys path value =
    required name_faults (codes "name") path value
    ++ required state_faults (codes "currentState") path value
    ++ required state_faults (codes "nextState") path value
    ++ optional (condition_faults false) (codes "condition") path value
    ++ optional (list_faults input_faults) (codes "inputs") path value
    ++ optional (list_faults output_faults) (codes "outputs") path value

-- a function [XMML]
abbrev pub function_faults : List ℕ → Data → List Shape
function_faults = object_faults function_keys

-- ---- an agent type: `name`, `memory` and `functions`

-- what stands in an agent type, where variables have these faults [XMML]
abbrev pub agent_keys : (List ℕ → Data → List Shape) → List ℕ → Data → List Shape
agent_keys variable path value =
    required name_faults (codes "name") path value
    ++ optional (list_faults variable) (codes "memory") path value
    ++ optional (list_faults function_faults) (codes "functions") path value

-- an agent type [XMML]
abbrev pub agent_faults : (List ℕ → Data → List Shape) → List ℕ → Data → List Shape
agent_faults variable = object_faults (agent_keys variable)

-- ---- a model file: `environment`, `messages`, `agents` and `models`

-- what the forms of model files want where they differ [own]
pub record Form : Type 0 where
  -- a variable of a row
  pub variable : List ℕ → Data → List Shape
  -- what stands at `dataTypes`
  pub types : List ℕ → Data → List Shape
  -- what stands at `models`
  pub nested : List ℕ → Data → List Shape

-- what stands in a model file of the form [XMML]
abbrev pub xmodel_keys : Form → List ℕ → Data → List Shape
xmodel_keys form path value =
    optional (environment_faults form.types) (codes "environment") path value
    ++ optional (list_faults (row_faults form.variable)) (codes "messages") path value
    ++ optional (list_faults (agent_faults form.variable)) (codes "agents") path value
    ++ optional form.nested (codes "models") path value

-- a model file of the form [XMML]
abbrev pub xmodel_faults : Form → List ℕ → Data → List Shape
xmodel_faults form = object_faults (xmodel_keys form)

-- the faults of a whole value of the form: at its root, `xmodel` [XMML]
abbrev pub form_faults : Form → Data → List Shape
form_faults form = object_faults (required (xmodel_faults form) (codes "xmodel")) root

-- ---- the plain form: each variable is of type int, and there are no data types and no further files

-- what the plain form wants [own]
abbrev pub plain : Form
plain = record { variable = variable_faults int_faults; types = empty_faults; nested = empty_faults }

-- the faults of a plain value [own]
abbrev pub shape_faults : Data → List Shape
shape_faults = form_faults plain

-- ---- the wide form: a variable of a row is of type int or of a data type, and a file names further files

-- what stands where a model file is named: `file` and `enabled` [XMML]
abbrev pub nested_keys : List ℕ → Data → List Shape
nested_keys path value =
    required file_faults (codes "file") path value
    ++ optional truth_faults (codes "enabled") path value

-- a model file that is named [XMML]
abbrev pub nested_faults : List ℕ → Data → List Shape
nested_faults = object_faults nested_keys

-- a variable of int or of a data type [XMML]
abbrev pub wide_variable_faults : List ℕ → Data → List Shape
wide_variable_faults = variable_faults name_faults

-- what the wide form wants [own]
abbrev pub wide : Form
wide = record {
  variable = wide_variable_faults;
  types = list_faults (row_faults wide_variable_faults);
  nested = list_faults nested_faults;
}

-- the faults of a wide value [own]
abbrev pub wide_faults : Data → List Shape
wide_faults = form_faults wide
