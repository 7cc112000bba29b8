-- What holds of shape faults and of the models that values stand for. [own]
use Rattle.std.specs.Prelude.{◌≡◌, ℕ, List, [], Bool, IsTrue}
use Rattle.serde_json.specs.Data.{Data}
use Rattle.flame_spec.specs.WellFormed.{is_well_formed}
use Rattle.flame_spec.specs.WideModels.{is_well_formed_wide}
use Rattle.flame_xmml.specs.ValueParts.{part}
use Rattle.flame_xmml.specs.ConditionShapes.{condition_keys, condition_faults, condition_parts, condition_of}
use Rattle.flame_xmml.specs.ShapeFaults.{shape_faults, wide_faults}
use Rattle.flame_xmml.specs.Models.{model_of}
use Rattle.flame_xmml.specs.WideValues.{wide_of}
use Rattle.flame_spec.specs.PlainFiles.{as_file}

-- the faults of a condition are those at its keys, where conditions stand again
abbrev pub FaultsStandAtKeys : Type 0
FaultsStandAtKeys =
    (in_filter : Bool) (path : List ℕ) (value : Data)
    → condition_faults in_filter path value
    ≡ condition_keys in_filter value (λ key inside. condition_faults in_filter inside (part key value)) path

-- the condition that a value stands for is made of those that its keys stand for
abbrev pub ConditionsStandAtKeys : Type 0
ConditionsStandAtKeys =
    (value : Data) → condition_of value ≡ condition_parts value (λ key. condition_of (part key value))

-- a value without shape faults stands for a model that is well formed
abbrev pub FaultlessIsWellFormed : Type 0
FaultlessIsWellFormed = (value : Data) → shape_faults value ≡ [] → IsTrue (is_well_formed (model_of value))

-- a value without shape faults of the wide form stands for a model file that is well formed
abbrev pub FaultlessIsWellFormedWide : Type 0
FaultlessIsWellFormedWide = (value : Data) → wide_faults value ≡ [] → IsTrue (is_well_formed_wide (wide_of value))

-- a value without shape faults of the plain form has none of the wide form, and stands there for its model as a file
abbrev pub PlainIsWide : Type 0
PlainIsWide = (value : Data) → shape_faults value ≡ [] → (wide_faults value ≡ []) × (wide_of value ≡ as_file (model_of value))
