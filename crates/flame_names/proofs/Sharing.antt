-- Names of functions of several types.
use Rattle.std.proofs.Common.{◌≡◌, List, [], ◌∷◌, ◌++◌, sym, ap, ◌∙◌, append_assoc, append-nil}
use Rattle.flame_spec.specs.declared.models.AgentType.{AgentType}
use Rattle.flame_spec.specs.NameFaults.{function_names, names_of_functions}

pub names_of_functions-push : (types : List AgentType) (type : AgentType)
    → names_of_functions (types ++ type ∷ []) ≡ names_of_functions types ++ function_names type.functions
names_of_functions-push [] type = append-nil (function_names type.functions)
names_of_functions-push (first ∷ types) type =
    ap (λ names. function_names first.functions ++ names) (names_of_functions-push types type)
    ∙ sym (append_assoc (function_names first.functions) (names_of_functions types) (function_names type.functions))
