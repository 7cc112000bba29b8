-- The keys of a function in two parts.
use Rattle.std.specs.Prelude.{ℕ, List, ◌++◌, codes, false, option_map}
use Rattle.serde_json.specs.Data.{Data}
use Rattle.flame_xmml.specs.declared.faults.Shape.{Shape}
use Rattle.flame_xmml.specs.declared.member.Step.{Step}
use Rattle.flame_xmml.specs.declared.member.Uses.{Uses}
use Rattle.flame_xmml.specs.ValueParts.{required, optional, list_faults}
use Rattle.flame_xmml.specs.LeafShapes.{name_faults, state_faults}
use Rattle.flame_xmml.specs.ConditionShapes.{condition_faults, condition_of}
use Rattle.flame_xmml.specs.ShapeFaults.{input_faults, output_faults}
use Rattle.flame_xmml.specs.Models.{name_at, filled_at, there, list_at, input_of}

-- the faults of `name`, `currentState` and `nextState` [XMML]
abbrev pub step_faults : List ℕ → Data → List Shape
step_faults path value =
    required name_faults (codes "name") path value
    ++ required state_faults (codes "currentState") path value
    ++ required state_faults (codes "nextState") path value

-- what they stand for [XMML]
abbrev pub step_of : Data → Step
step_of value = record {
  name = name_at (codes "name") value;
  current = filled_at (codes "currentState") value;
  next = filled_at (codes "nextState") value;
}

-- the faults of `condition`, `inputs` and `outputs` [XMML]
abbrev pub uses_faults : List ℕ → Data → List Shape
uses_faults path value =
    optional (condition_faults false) (codes "condition") path value
    ++ optional (list_faults input_faults) (codes "inputs") path value
    ++ optional (list_faults output_faults) (codes "outputs") path value

-- what they stand for [XMML]
abbrev pub uses_of : Data → Uses
uses_of value = record {
  condition = option_map condition_of (there (codes "condition") value);
  inputs = list_at input_of (codes "inputs") value;
  outputs = list_at (name_at (codes "messageName")) (codes "outputs") value;
}
