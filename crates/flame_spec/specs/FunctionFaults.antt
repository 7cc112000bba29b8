-- Faults of the names of functions, of what they read and of what they add.
use Rattle.std.specs.Prelude.{ℕ, List, [], ◌++◌, take, map, codes, Bool, not, ◌&&◌, Option, Some, None}
use Rattle.std.specs.List.{list_any}
use Rattle.std.specs.Str.{bytes_eq}
use Rattle.flame_spec.specs.declared.faults.NameFault.{NameFault}
use Rattle.flame_spec.specs.declared.faults.NameKind.TheVariants.{Duplicate, UnknownMessage, FunctionShared, RandomOrder}
use Rattle.flame_spec.specs.declared.models.Variable.{Variable}
use Rattle.flame_spec.specs.declared.models.Function.{Function}
use Rattle.flame_spec.specs.declared.models.Input.{Input}
use Rattle.flame_spec.specs.declared.models.Sort.{Sort}
use Rattle.flame_spec.specs.Lists.{each}
use Rattle.flame_spec.specs.KnownNames.{is_among, DeclaredNames}
use Rattle.flame_spec.specs.Paths.{at_key, at_number}
use Rattle.flame_spec.specs.Refusals.{fault_where}
use Rattle.flame_spec.specs.Leaves.{LeafScope, single_faults, condition_faults}

-- what the condition of a function reads, where the memory has these variables: no message [own]
abbrev pub condition_scope : DeclaredNames → List Variable → LeafScope
condition_scope declared memory = record { memory = memory; message = []; units = declared.units }

-- what a filter of this message reads [own]
abbrev pub filter_scope : DeclaredNames → List Variable → List ℕ → LeafScope
filter_scope declared memory message =
    record { memory = memory; message = declared.variables message; units = declared.units }

-- the key of a sort has to be a single one of the message's variables [own]
abbrev pub sort_faults : List Variable → List ℕ → Option Sort → List NameFault
sort_faults variables path None = []
sort_faults variables path (Some sort) = single_faults variables sort.key (at_key path (codes "key")) sort.key

-- the name of a message that is read or added: it is declared, and it does not stand there earlier [own]
abbrev pub use_faults : DeclaredNames → List (List ℕ) → List ℕ → List ℕ → List NameFault
use_faults declared earlier path message =
    fault_where (not (is_among message declared.messages)) UnknownMessage (at_key path (codes "messageName")) message
    ++ fault_where (is_among message earlier) Duplicate (at_key path (codes "messageName")) message

-- how a message is read, by an input at this path whose filter has this scope: in no random order, and the variables in
-- the filter and the key of the sort are known, and single [own]
abbrev pub reading_faults : LeafScope → List ℕ → Input → List NameFault
reading_faults scope path input =
    fault_where input.random RandomOrder (at_key path (codes "random")) input.message
    ++ (condition_faults scope (at_key path (codes "filter")) input.filter
    ++ sort_faults scope.message (at_key path (codes "sort")) input.sort)

-- the faults of an input at this path behind inputs of the earlier messages, in a function of a type with this memory
-- [own]
abbrev pub input_faults : DeclaredNames → List Variable → List (List ℕ) → List ℕ → Input → List NameFault
input_faults declared memory earlier path input =
    use_faults declared earlier path input.message
    ++ reading_faults (filter_scope declared memory input.message) path input

-- the messages of inputs [XMML]
abbrev pub read_names : List Input → List (List ℕ)
read_names inputs = map (λ input. input.message) inputs

-- the faults of the inputs of the list at this path [own]
abbrev pub inputs_faults : DeclaredNames → List Variable → List ℕ → List Input → List NameFault
inputs_faults declared memory path inputs =
    each (λ i input. input_faults declared memory (read_names (take i inputs)) (at_number path i) input) inputs

-- the faults of the outputs of the list at this path [own]
abbrev pub outputs_faults : DeclaredNames → List ℕ → List (List ℕ) → List NameFault
outputs_faults declared path outputs =
    each (λ i message. use_faults declared (take i outputs) (at_number path i) message) outputs

-- the same name between the same states [own]
abbrev pub is_same : Function → Function → Bool
is_same function other =
    bytes_eq function.name other.name
    && (bytes_eq function.current other.current
    && bytes_eq function.next other.next)

-- the name of a function: no earlier type has it, unless it is `idle`, and the type has no earlier function of this
-- name between these states [own]
abbrev pub title_faults : (List ℕ → Bool) → List Function → List ℕ → Function → List NameFault
title_faults is_taken earlier path function =
    fault_where
    (not (bytes_eq function.name (codes "idle")) && is_taken function.name)
    FunctionShared
    path
    function.name
    ++ fault_where (list_any (is_same function) earlier) Duplicate path function.name

-- the faults of a function at this path behind the earlier ones of its type: of its name, its condition, its inputs and
-- its outputs; `is_taken` says which names the earlier types' functions have [own]
abbrev pub function_faults :
    DeclaredNames
    → List Variable
    → (List ℕ → Bool)
    → List Function
    → List ℕ
    → Function
    → List NameFault
function_faults declared memory is_taken earlier path function =
    title_faults is_taken earlier (at_key path (codes "name")) function
    ++ (condition_faults (condition_scope declared memory) (at_key path (codes "condition")) function.condition
    ++ (inputs_faults declared memory (at_key path (codes "inputs")) function.inputs
    ++ outputs_faults declared (at_key path (codes "outputs")) function.outputs))

-- the faults of the functions of the list at this path [own]
abbrev pub functions_faults : DeclaredNames → List Variable → (List ℕ → Bool) → List ℕ → List Function → List NameFault
functions_faults declared memory is_taken path functions =
    each
    (λ i function. function_faults declared memory is_taken (take i functions) (at_number path i) function)
    functions
