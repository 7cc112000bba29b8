-- Faults of functions behind a table of the earlier ones.
use Rattle.std.specs.Prelude.{ℕ, List, ◌++◌, codes, Bool, not, ◌&&◌}
use Rattle.std.specs.List.{list_any}
use Rattle.std.specs.Str.{bytes_eq}
use Rattle.flame_spec.specs.declared.faults.NameFault.{NameFault}
use Rattle.flame_spec.specs.declared.faults.NameKind.TheVariants.{Duplicate, FunctionShared}
use Rattle.flame_spec.specs.declared.models.Function.{Function}
use Rattle.flame_spec.specs.declared.models.Variable.{Variable}
use Rattle.flame_spec.specs.KnownNames.{DeclaredNames}
use Rattle.flame_spec.specs.Paths.{at_key}
use Rattle.flame_spec.specs.Refusals.{fault_where}
use Rattle.flame_spec.specs.Leaves.{condition_faults}
use Rattle.flame_spec.specs.FunctionFaults.{condition_scope, inputs_faults, outputs_faults}
use Rattle.flame_names.specs.NameLooks.{transition_of, is_same_transition}

-- a function's name and its states [own]
abbrev pub Transitions : Type 0
Transitions = List (List ℕ × List ℕ × List ℕ)

-- the faults of the name of a function [own]
abbrev pub title_at : (List ℕ → Bool) → Transitions → List ℕ → Function → List NameFault
title_at is_taken earlier path function =
    fault_where
    (not (bytes_eq function.name (codes "idle")) && is_taken function.name)
    FunctionShared
    path
    function.name
    ++ fault_where (list_any (is_same_transition (transition_of function)) earlier) Duplicate path function.name

-- the faults of a function [own]
abbrev pub function_at :
    DeclaredNames → List Variable → (List ℕ → Bool) → Transitions → List ℕ → Function → List NameFault
function_at declared memory is_taken earlier path function =
    title_at is_taken earlier (at_key path (codes "name")) function
    ++ (condition_faults (condition_scope declared memory) (at_key path (codes "condition")) function.condition
    ++ (inputs_faults declared memory (at_key path (codes "inputs")) function.inputs
    ++ outputs_faults declared (at_key path (codes "outputs")) function.outputs))
