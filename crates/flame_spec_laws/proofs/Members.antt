-- Variables, functions, inputs and outputs differ where names have no fault.
use Rattle.std.proofs.Common.{◌≡◌, ℕ, zero, suc, ◌<◌, Bool, true, false, true≢false, not, ◌&&◌, ◌||◌, List, [], ◌∷◌}
use Rattle.std.proofs.Common.{map, take, length, get_or, codes, Contains, Some, None, ◌⊎◌, inl, inr, refl, ap, sym, ◌∙◌}
use Rattle.std.proofs.Common.{subst, arith}
use Rattle.std.specs.Prelude.{slice_get}
use Rattle.std.specs.List.{list_any}
use Rattle.std.specs.Str.{bytes_eq}
use Rattle.std.proofs.lemmas.List.{take-map, length-map}
use Rattle.std.proofs.lemmas.Bool.{or_left, or_right, or_parts}
use Rattle.std.proofs.lemmas.List.Folds.{list_any-append}
use Rattle.flame_rows.proofs.Bytes.{bytes_eq-true, bytes_eq-same}
use Rattle.flame_rows.proofs.Lists.{append-is_nil_left, append-is_nil_right}
use Rattle.flame_ops.specs.Ascii.{capitals}
use Rattle.flame_spec.specs.declared.faults.NameKind.TheVariants.{Duplicate, Clash, FunctionShared}
use Rattle.flame_spec.specs.declared.models.Model.{Model}
use Rattle.flame_spec.specs.declared.models.Variable.{Variable}
use Rattle.flame_spec.specs.declared.models.MessageType.{MessageType}
use Rattle.flame_spec.specs.declared.models.AgentType.{AgentType}
use Rattle.flame_spec.specs.declared.models.Function.{Function}
use Rattle.flame_spec.specs.declared.models.Input.{Input}
use Rattle.flame_spec.specs.Capitals.{clashes}
use Rattle.flame_spec.specs.KnownNames.{is_among, variable_names, message_names, DeclaredNames, declared_by}
use Rattle.flame_spec.specs.Paths.{at_key, at_number}
use Rattle.flame_spec.specs.Refusals.{fault_where}
use Rattle.flame_spec.specs.MessageFaults.{apart_faults, variable_faults, variables_faults}
use Rattle.flame_spec.specs.FunctionFaults.{use_faults, input_faults, read_names, inputs_faults, outputs_faults}
use Rattle.flame_spec.specs.FunctionFaults.{is_same}
use Rattle.flame_spec.specs.FunctionFaults.{title_faults, function_faults}
use Rattle.flame_spec.specs.NameFaults.{memory_name_faults, memory_variable_faults, memory_faults}
use Rattle.flame_spec.specs.NameFaults.{function_names}
use Rattle.flame_spec.specs.NameFaults.{names_of_functions, name_faults}
use Rattle.flame_spec.proofs.FaultTests.{name_fault_where-none}
use Rattle.flame_spec_laws.specs.DistinctNames.{AreDistinct}
use Rattle.flame_spec_laws.specs.MemberLaws.{AreApart}
use Rattle.flame_spec_laws.proofs.Found.{Contains-cases}
use Rattle.flame_spec_laws.proofs.NameKnowledge.{each_none as each_at}
use Rattle.flame_spec_laws.proofs.UsedKnown.{xmodel, parts_none, agent_none, function_none}
use Rattle.flame_spec_laws.proofs.Distinct.{each_none, LooksBack, distinct, get_or-map, looks_back, StandsApart}
use Rattle.flame_spec_laws.proofs.Distinct.{IsApart}
use Rattle.flame_spec_laws.proofs.Distinct.{is_apart}

-- ---- variables

abbrev single : Variable
single = record { name = []; length = None }

-- what a memory variable's name is without faults
record IsFree (constants earlier : List (List ℕ)) (name : List ℕ) : Type 0 where
  apart : StandsApart name earlier
  free : is_among (capitals name) constants ≡ false

is_free :
    (constants earlier : List (List ℕ)) (path name : List ℕ)
    → memory_name_faults constants earlier path name ≡ []
    → IsFree constants earlier name
is_free constants earlier path name none =
    let clash : clashes name earlier || is_among (capitals name) constants ≡ false
    = name_fault_where-none _ Clash path name (append-is_nil_right (fault_where (is_among name earlier) Duplicate path name) _ none) in
    record {
      apart = record {
        new = name_fault_where-none _ Duplicate path name
            (append-is_nil_left (fault_where (is_among name earlier) Duplicate path name) _ none);
        alone = (or_parts _ _ clash).0;
      };
      free = (or_parts (clashes name earlier) _ clash).1;
    }

memory_free :
    (constants : List (List ℕ)) (path : List ℕ) (variables : List Variable)
    → memory_faults constants path variables ≡ []
    → (k : ℕ)
    → k < length variables
    → IsFree constants (variable_names (take k variables)) (get_or variables k single).name
memory_free constants path variables none k inside =
    is_free constants (variable_names (take k variables)) (at_key (at_number path k) (codes "name"))
    (get_or variables k single).name
    (append-is_nil_left _ _
    (each_none (λ i variable. memory_variable_faults constants (take i variables) (at_number path i) variable)
    variables single none k inside))

memory_apart :
    (constants : List (List ℕ)) (path : List ℕ) (variables : List Variable)
    → memory_faults constants path variables ≡ []
    → IsApart (variable_names variables)
memory_apart constants path variables none =
    is_apart (variable_names variables)
    (λ k inside.
    let at : k < length variables = subst (λ n. k < n) (length-map variables (λ v. v.name)) inside in
    let facts = memory_free constants path variables none k at in
    let name = get_or-map (λ v. v.name) single variables k refl in
    let earlier = take-map (λ v. v.name) k variables in
    record {
      new =
          ap (λ n. is_among n (take k (variable_names variables))) name
          ∙ ap (is_among (get_or variables k single).name) earlier
          ∙ facts.apart.new;
      alone =
          ap (λ n. clashes n (take k (variable_names variables))) name
          ∙ ap (clashes (get_or variables k single).name) earlier
          ∙ facts.apart.alone;
    })

-- ---- paths

-- where a function of a type stands
abbrev place : ℕ → ℕ → List ℕ
place i j = at_number (at_key (at_number (at_key xmodel (codes "agents")) i) (codes "functions")) j

-- the names of functions of the types before
abbrev taken_before : Model → ℕ → List ℕ → Bool
taken_before model i name = is_among name (names_of_functions (take i model.agents))

-- ---- lists

-- a name that one of them has in capitals
among_capitals :
    (name : List ℕ) (constants : List (List ℕ)) (constant : List ℕ)
    → Contains constants constant
    → capitals name ≡ capitals constant
    → is_among (capitals name) (map capitals constants) ≡ true
among_capitals name [] constant (k, below, at) same = absurd (omega arith)
among_capitals name (c ∷ constants) constant among same =
    by_place (Contains-cases c constants constant among) (among_capitals name constants constant)
  where
    by_place :
        (c ≡ constant) ⊎ Contains constants constant
        → (Contains constants constant → capitals name ≡ capitals constant
        → is_among (capitals name) (map capitals constants) ≡ true)
        → bytes_eq (capitals name) (capitals c) || is_among (capitals name) (map capitals constants) ≡ true
    by_place (inl e) later =
        or_left _ _ (bytes_eq-same (capitals name) (capitals c) (same ∙ ap capitals (sym e)))
    by_place (inr among') later = or_right _ _ (later among' same)

none_earlier :
    {X : Type 0} (p : X → Bool) (i k : ℕ) (xs : List X) (x : X)
    → i < k
    → slice_get xs i ≡ Some x
    → list_any p (take k xs) ≡ false
    → p x ≡ false
none_earlier p i k [] x below at none = cc
none_earlier p i zero (y ∷ xs) x below at none = absurd (omega arith)
none_earlier p zero (suc k) (y ∷ xs) x below at none =
    let same : y ≡ x = cc in
    sym (ap p same) ∙ (or_parts (p y) _ none).0
none_earlier p (suc i) (suc k) (y ∷ xs) x below at none =
    none_earlier p i k xs x (omega arith) at (or_parts (p y) _ none).1

named : (k : ℕ) (functions : List Function) (function : Function)
    → slice_get functions k ≡ Some function
    → is_among function.name (function_names functions) ≡ true
named k [] function at = cc
named zero (f ∷ functions) function at =
    let same : f ≡ function = cc in
    or_left _ _ (bytes_eq-same function.name f.name (ap (λ g. g.name) (sym same)))
named (suc k) (f ∷ functions) function at = or_right _ _ (named k functions function at)

named_earlier :
    (i j k : ℕ) (types : List AgentType) (type : AgentType) (function : Function)
    → i < j
    → slice_get types i ≡ Some type
    → slice_get type.functions k ≡ Some function
    → is_among function.name (names_of_functions (take j types)) ≡ true
named_earlier i j k [] type function below at_type at_function = cc
named_earlier i zero k (t ∷ types) type function below at_type at_function = absurd (omega arith)
named_earlier zero (suc j) k (t ∷ types) type function below at_type at_function =
    let same : type ≡ t = cc in
    (list_any-append (bytes_eq function.name) (function_names t.functions) (names_of_functions (take j types)))
    ∙ or_left _ _ (named k t.functions function (sym (ap (λ u. slice_get u.functions k) same) ∙ at_function))
named_earlier (suc i) (suc j) k (t ∷ types) type function below at_type at_function =
    (list_any-append (bytes_eq function.name) (function_names t.functions) (names_of_functions (take j types)))
    ∙ or_right _ _ (named_earlier i j k types type function (omega arith) at_type at_function)

all_three : {a b c : Bool} → a ≡ true → b ≡ true → c ≡ true → a && (b && c) ≡ true
all_three e f g = cc

variables_back :
    (path : List ℕ) (variables : List Variable)
    → variables_faults path variables ≡ []
    → LooksBack (variable_names variables)
variables_back path variables none =
    looks_back (λ v. v.name) single variables refl
    (λ k inside.
    name_fault_where-none _ Duplicate _ _
    (append-is_nil_left _ _
    (each_none (λ i variable. variable_faults (take i variables) (at_number path i) variable)
    variables single none k inside)))

-- where the memory of a type stands
abbrev pub memory_path : ℕ → List ℕ
memory_path i = at_key (at_number (at_key xmodel (codes "agents")) i) (codes "memory")

pub memory_none :
    (model : Model) (i : ℕ) (type : AgentType)
    → name_faults model ≡ []
    → slice_get model.agents i ≡ Some type
    → memory_faults (map capitals model.constants) (memory_path i) type.memory ≡ []
memory_none model i type none at =
    append-is_nil_left
    (memory_faults (map capitals model.constants) (memory_path i) type.memory)
    _
    (append-is_nil_right _ _ (agent_none model i type none at))

pub types_apart :
    (model : Model) (i : ℕ) (type : AgentType)
    → name_faults model ≡ []
    → slice_get model.agents i ≡ Some type
    → AreApart model.constants type.memory
types_apart model i type none at = record {
  plain = distinct (variable_names type.memory) apart.plain;
  shouted = distinct (map capitals (variable_names type.memory)) apart.shouted;
  others = λ k variable constant at_variable among same.
      let free : IsFree (map capitals model.constants) (variable_names (take k type.memory)) variable.name
      = is_free (map capitals model.constants) (variable_names (take k type.memory)) _ variable.name
      (append-is_nil_left _ _ (each_at _ 0 type.memory k variable k memory at_variable (omega arith))) in
      true≢false
      (sym (among_capitals variable.name model.constants constant among same) ∙ free.free);
}
  where
    memory : memory_faults (map capitals model.constants) (memory_path i) type.memory ≡ []
    memory = memory_none model i type none at

    apart : IsApart (variable_names type.memory)
    apart = memory_apart (map capitals model.constants)
        (memory_path i) type.memory memory

pub message_distinct :
    (model : Model) (i : ℕ) (message : MessageType)
    → name_faults model ≡ []
    → slice_get model.messages i ≡ Some message
    → AreDistinct (variable_names message.variables)
message_distinct model i message none at =
    let of_message = each_at _ 0 model.messages i message i (parts_none model none).messages at (omega arith) in
    distinct (variable_names message.variables)
    (variables_back (at_key (at_number (at_key xmodel (codes "messages")) i) (codes "variables")) message.variables
    (append-is_nil_right (apart_faults (message_names (take i model.messages)) _ message.name) _ of_message))

-- ---- inputs and outputs

abbrev no_input : Input
no_input = record { message = []; random = false; filter = None; sort = None }

inputs_back :
    (declared : DeclaredNames) (memory : List Variable) (path : List ℕ) (inputs : List Input)
    → inputs_faults declared memory path inputs ≡ []
    → LooksBack (read_names inputs)
inputs_back declared memory path inputs none =
    looks_back (λ input. input.message) no_input inputs refl
    (λ k inside.
    name_fault_where-none _ Duplicate _ _
    (append-is_nil_right _ _
    (append-is_nil_left
    (use_faults declared (read_names (take k inputs)) (at_number path k) (get_or inputs k no_input).message) _
    (each_none
    (λ i input. input_faults declared memory (read_names (take i inputs)) (at_number path i) input)
    inputs no_input none k inside))))

outputs_back :
    (declared : DeclaredNames) (path : List ℕ) (outputs : List (List ℕ))
    → outputs_faults declared path outputs ≡ []
    → LooksBack outputs
outputs_back declared path outputs none = record {
  new = λ k inside.
      name_fault_where-none _ Duplicate _ _
      (append-is_nil_right _ _
      (each_none
      (λ i message. use_faults declared (take i outputs) (at_number path i) message) outputs [] none k inside));
}

module _ (model : Model) (none : name_faults model ≡ []) where
  -- the parts of a function of the model
  of_function :
      (i j : ℕ) (type : AgentType) (function : Function)
      → slice_get model.agents i ≡ Some type
      → slice_get type.functions j ≡ Some function
      → function_faults (declared_by model) type.memory
      (taken_before model i) (take j type.functions) (place i j) function ≡ []
  of_function i j type function at_type at_function =
      each_at _ 0 type.functions j function j (append-is_nil_right _ _ (append-is_nil_right _ _ (agent_none model i type none at_type)))
      at_function (omega arith)

  pub inputs_distinct :
      (i j : ℕ) (type : AgentType) (function : Function)
      → slice_get model.agents i ≡ Some type
      → slice_get type.functions j ≡ Some function
      → AreDistinct (read_names function.inputs)
  inputs_distinct i j type function at_type at_function =
      distinct (read_names function.inputs)
      (inputs_back (declared_by model) type.memory
      (at_key (place i j) (codes "inputs")) function.inputs
      (function_none (declared_by model) type.memory (taken_before model i) (take j type.functions)
      (place i j) function
      (of_function i j type function at_type at_function)).inputs)

  pub outputs_distinct :
      (i j : ℕ) (type : AgentType) (function : Function)
      → slice_get model.agents i ≡ Some type
      → slice_get type.functions j ≡ Some function
      → AreDistinct function.outputs
  outputs_distinct i j type function at_type at_function =
      distinct function.outputs
      (outputs_back (declared_by model) (at_key (place i j) (codes "outputs")) function.outputs
      (function_none (declared_by model) type.memory (taken_before model i) (take j type.functions)
      (place i j) function
      (of_function i j type function at_type at_function)).outputs)

  -- ---- functions

  title :
      (i j : ℕ) (type : AgentType) (function : Function)
      → slice_get model.agents i ≡ Some type
      → slice_get type.functions j ≡ Some function
      → title_faults (taken_before model i) (take j type.functions) (at_key (place i j) (codes "name")) function ≡ []
  title i j type function at_type at_function = append-is_nil_left _ _ (of_function i j type function at_type at_function)

  pub functions_differ :
      (i j k l : ℕ) (type other : AgentType) (function another : Function)
      → i < j
      → slice_get model.agents i ≡ Some type
      → slice_get model.agents j ≡ Some other
      → slice_get type.functions k ≡ Some function
      → slice_get other.functions l ≡ Some another
      → function.name ≡ another.name
      → function.name ≡ codes "idle"
  functions_differ i j k l type other function another below at_type at_other at_function at_another same =
      by_idle (bytes_eq another.name (codes "idle")) refl
    where
      shared : not (bytes_eq another.name (codes "idle"))
          && is_among another.name (names_of_functions (take j model.agents)) ≡ false
      shared = name_fault_where-none _ FunctionShared _ _ (append-is_nil_left _ _ (title j l other another at_other at_another))

      taken : is_among another.name (names_of_functions (take j model.agents)) ≡ true
      taken =
          ap (λ name. is_among name (names_of_functions (take j model.agents))) (sym same)
          ∙ named_earlier i j k model.agents type function below at_type at_function

      by_idle : (b : Bool) → bytes_eq another.name (codes "idle") ≡ b → function.name ≡ codes "idle"
      by_idle true e = same ∙ bytes_eq-true another.name (codes "idle") e
      by_idle false e =
          let shown : not (bytes_eq another.name (codes "idle"))
          && is_among another.name (names_of_functions (take j model.agents)) ≡ true
          = rw e taken in
          absurd (true≢false (sym shown ∙ shared))

  pub transitions_differ :
      (i j k : ℕ) (type : AgentType) (function another : Function)
      → slice_get model.agents i ≡ Some type
      → j < k
      → slice_get type.functions j ≡ Some function
      → slice_get type.functions k ≡ Some another
      → function.name ≡ another.name
      → function.current ≡ another.current
      → function.next ≡ another.next
      → ⊥
  transitions_differ i j k type function another at_type below at_function at_another name current next =
      let new : list_any (is_same another) (take k type.functions) ≡ false
      = name_fault_where-none _ Duplicate _ _
      (append-is_nil_right
      (fault_where
      (not (bytes_eq another.name (codes "idle")) && is_among another.name (names_of_functions (take i model.agents)))
      FunctionShared _ another.name) _ (title i k type another at_type at_another)) in
      let other : is_same another function ≡ false
      = none_earlier (is_same another) j k type.functions function below at_function new in
      let same : is_same another function ≡ true
      = all_three (bytes_eq-same another.name function.name (sym name))
      (bytes_eq-same another.current function.current (sym current))
      (bytes_eq-same another.next function.next (sym next)) in
      true≢false (sym same ∙ other)
