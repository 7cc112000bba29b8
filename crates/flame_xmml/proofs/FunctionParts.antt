-- The keys of a function are its step, then what it uses.
use Rattle.std.proofs.Common.{◌≡◌, ◌∙◌, ℕ, List, ◌++◌, ap, codes, false, append_assoc}
use Rattle.serde_json.specs.Data.{Data}
use Rattle.flame_xmml.specs.ConditionShapes.{condition_faults}
use Rattle.flame_xmml.specs.FunctionStep.{step_faults, uses_faults}
use Rattle.flame_xmml.specs.ShapeFaults.{function_keys, input_faults, output_faults}
use Rattle.flame_xmml.specs.ValueParts.{optional, list_faults}

pub function_keys-parts :
    (path : List ℕ) (value : Data) → function_keys path value ≡ step_faults path value ++ uses_faults path value
function_keys-parts path value =
    let step = step_faults path value in
    let condition = optional (condition_faults false) (codes "condition") path value in
    let inputs = optional (list_faults input_faults) (codes "inputs") path value in
    let outputs = optional (list_faults output_faults) (codes "outputs") path value in
    ap (λ faults. faults ++ outputs) (append_assoc step condition inputs)
    ∙ append_assoc step (condition ++ inputs) outputs
