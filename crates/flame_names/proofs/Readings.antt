-- The faults of an input of a message that is known, or not.
use Rattle.std.proofs.Common.{◌≡◌, ℕ, List, [], ◌++◌, codes, sym, ap, ◌∙◌, true, false, not, Some}
use Rattle.flame_spec.specs.declared.faults.NameKind.TheVariants.{Duplicate, UnknownMessage}
use Rattle.flame_spec.specs.declared.models.Input.{Input}
use Rattle.flame_spec.specs.declared.models.Variable.{Variable}
use Rattle.flame_spec.specs.Lists.{first}
use Rattle.flame_spec.specs.KnownNames.{is_among, DeclaredNames}
use Rattle.flame_spec.specs.Paths.{at_key}
use Rattle.flame_spec.specs.Refusals.{name_fault, fault_where}
use Rattle.flame_spec.specs.Leaves.{LeafScope}
use Rattle.flame_spec.specs.FunctionFaults.{filter_scope, reading_faults, input_faults}

-- what a filter reads of a message with these variables
abbrev pub read_scope : DeclaredNames → List Variable → List Variable → LeafScope
read_scope declared memory variables = record { memory = memory; message = variables; units = declared.units }

pub input_faults-known : (declared : DeclaredNames) (memory : List Variable) (earlier : List (List ℕ)) (path : List ℕ)
    (input : Input)
    (variables : List Variable)
    → is_among input.message declared.messages ≡ true
    → declared.variables input.message ≡ variables
    → input_faults declared memory earlier path input
    ≡ fault_where (is_among input.message earlier) Duplicate (at_key path (codes "messageName")) input.message
    ++ reading_faults (read_scope declared memory variables) path input
input_faults-known declared memory earlier path input variables known own =
    ap
    (λ b.
    (fault_where (not b) UnknownMessage (at_key path (codes "messageName")) input.message
    ++ fault_where (is_among input.message earlier) Duplicate (at_key path (codes "messageName")) input.message)
    ++ reading_faults (filter_scope declared memory input.message) path input)
    known
    ∙ ap
    (λ names.
    fault_where (is_among input.message earlier) Duplicate (at_key path (codes "messageName")) input.message
    ++ reading_faults (read_scope declared memory names) path input)
    own

pub input_faults-unknown : (declared : DeclaredNames) (memory : List Variable) (earlier : List (List ℕ)) (path : List ℕ)
    (input : Input)
    → is_among input.message declared.messages ≡ false
    → first (input_faults declared memory earlier path input)
    ≡ Some (name_fault UnknownMessage (at_key path (codes "messageName")) input.message)
input_faults-unknown declared memory earlier path input unknown =
    ap
    (λ b.
    first
    ((fault_where (not b) UnknownMessage (at_key path (codes "messageName")) input.message
    ++ fault_where (is_among input.message earlier) Duplicate (at_key path (codes "messageName")) input.message)
    ++ reading_faults (filter_scope declared memory input.message) path input))
    unknown

-- a known message that is new
pub rest_is : (declared : DeclaredNames) (memory : List Variable) (earlier : List (List ℕ)) (path : List ℕ)
    (input : Input)
    (variables : List Variable) (name : List ℕ)
    → name ≡ input.message
    → is_among input.message declared.messages ≡ true
    → declared.variables input.message ≡ variables
    → fault_where (is_among name earlier) Duplicate (at_key path (codes "messageName")) name ≡ []
    → input_faults declared memory earlier path input ≡ reading_faults (read_scope declared memory variables) path input
rest_is declared memory earlier path input variables name is known own none =
    input_faults-known declared memory earlier path input variables known own
    ∙ ap
    (λ l. l ++ reading_faults (read_scope declared memory variables) path input)
    (ap (λ n. fault_where (is_among n earlier) Duplicate (at_key path (codes "messageName")) n) (sym is) ∙ none)
