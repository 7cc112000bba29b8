-- In models without name faults each name that is used is declared.
use Rattle.std.proofs.Common.{◌≡◌, ℕ, Bool, true, List, [], ◌++◌, take, Option, Some, None, ap, sym, ◌∙◌, arith}
use Rattle.std.specs.Prelude.{slice_get, codes}
use Rattle.std.proofs.lemmas.Bool.{not-false}
use Rattle.flame_rows.proofs.Lists.{append-is_nil_left, append-is_nil_right}
use Rattle.flame_spec.specs.declared.conditions.Condition.{Condition}
use Rattle.flame_spec.specs.declared.models.Model.{Model}
use Rattle.flame_spec.specs.declared.models.AgentType.{AgentType}
use Rattle.flame_spec.specs.declared.models.Function.{Function}
use Rattle.flame_spec.specs.declared.models.Input.{Input}
use Rattle.flame_spec.specs.declared.models.Sort.{Sort}
use Rattle.flame_spec.specs.declared.models.Variable.{Variable}
use Rattle.flame_spec.specs.Columns.{variable_named}
use Rattle.flame_spec.specs.KnownNames.{is_among, DeclaredNames, declared_by}
use Rattle.flame_spec.specs.Paths.{root, at_key, at_number}
use Rattle.flame_spec.specs.Leaves.{LeafScope, condition_faults}
use Rattle.flame_spec.specs.UnitFaults.{units_faults}
use Rattle.flame_spec.specs.MessageFaults.{constant_faults, messages_faults}
use Rattle.flame_spec.specs.FunctionFaults.{condition_scope, sort_faults, input_faults, inputs_faults, outputs_faults}
use Rattle.flame_spec.specs.FunctionFaults.{title_faults, function_faults}
use Rattle.flame_spec.specs.NameFaults.{agent_faults, agents_faults, type_names, names_of_functions, environment_faults}
use Rattle.flame_spec.specs.NameFaults.{name_faults}
use Rattle.flame_spec.proofs.FaultTests.{name_fault_where-none}
use Rattle.flame_spec_laws.specs.UsedNames.{has_single, knows, IsInputKnown, IsFunctionKnown, UsedNamesAreDeclared}
use Rattle.flame_spec_laws.proofs.NameKnowledge.{each_none, found_single, condition_known}

abbrev pub xmodel : List ℕ
xmodel = at_key root (codes "xmodel")

abbrev pub environment : List ℕ
environment = at_key xmodel (codes "environment")

-- no part of the model has faults
pub record HasNone (model : Model) : Type 0 where
  pub constants : constant_faults (at_key environment (codes "constants")) model.constants ≡ []
  pub units : units_faults (at_key environment (codes "timeUnits")) model.units ≡ []
  pub messages : messages_faults (at_key xmodel (codes "messages")) model.messages ≡ []
  pub agents : agents_faults (declared_by model) (at_key xmodel (codes "agents")) model.agents ≡ []

pub parts_none : (model : Model) → name_faults model ≡ [] → HasNone model
parts_none model none = record {
  constants = append-is_nil_left _ _ (append-is_nil_left (environment_faults environment model) _ none);
  units =
      append-is_nil_right (constant_faults (at_key environment (codes "constants")) model.constants) _
      (append-is_nil_left (environment_faults environment model) _ none);
  messages = append-is_nil_left _ _ (append-is_nil_right (environment_faults environment model) _ none);
  agents =
      append-is_nil_right (messages_faults (at_key xmodel (codes "messages")) model.messages) _
      (append-is_nil_right (environment_faults environment model) _ none);
}

pub agent_none :
    (model : Model) (i : ℕ) (type : AgentType)
    → name_faults model ≡ []
    → slice_get model.agents i ≡ Some type
    → agent_faults (declared_by model) (type_names (take i model.agents))
    (λ name. is_among name (names_of_functions (take i model.agents)))
    (at_number (at_key xmodel (codes "agents")) i) type
    ≡ []
agent_none model i type none at = each_none _ 0 model.agents i type i (parts_none model none).agents at (omega arith)

condition_there :
    (scope : LeafScope) (path : List ℕ) (o : Option Condition)
    → condition_faults scope path o ≡ []
    → (condition : Condition)
    → o ≡ Some condition
    → knows scope condition ≡ true
condition_there scope path None none condition at = cc
condition_there scope path (Some other) none condition at =
    let same : other ≡ condition = cc in
    sym (ap (knows scope) same) ∙ condition_known scope other path none

sort_there :
    (variables : List Variable) (path : List ℕ) (o : Option Sort)
    → sort_faults variables path o ≡ []
    → (sort : Sort)
    → o ≡ Some sort
    → has_single variables sort.key ≡ true
sort_there variables path None none sort at = cc
sort_there variables path (Some other) none sort at =
    let same : other ≡ sort = cc in
    sym (ap (λ s. has_single variables s.key) same) ∙ found_single (variable_named variables other.key) _ _ none

input_known :
    (declared : DeclaredNames) (memory : List Variable) (earlier : List (List ℕ)) (path : List ℕ) (input : Input)
    → input_faults declared memory earlier path input ≡ []
    → IsInputKnown declared memory input
input_known declared memory earlier path input none =
    let after_use = append-is_nil_right _ _ none in
    let after_order = append-is_nil_right _ _ after_use in
    record {
      message = not-false _ (name_fault_where-none _ _ _ _ (append-is_nil_left _ _ (append-is_nil_left _ _ none)));
      order = name_fault_where-none _ _ _ _ (append-is_nil_left _ _ after_use);
      filter = condition_there _ _ input.filter (append-is_nil_left _ _ after_order);
      sort = sort_there _ _ input.sort (append-is_nil_right _ _ after_order);
    }

-- no part of the function has faults
pub record HasNoneIn (declared : DeclaredNames) (memory : List Variable) (path : List ℕ)
    (function : Function) : Type 0 where
  pub condition : condition_faults (condition_scope declared memory)
      (at_key path (codes "condition")) function.condition ≡ []
  pub inputs : inputs_faults declared memory (at_key path (codes "inputs")) function.inputs ≡ []
  pub outputs : outputs_faults declared (at_key path (codes "outputs")) function.outputs ≡ []

pub function_none :
    (declared : DeclaredNames) (memory : List Variable) (is_taken : List ℕ
    → Bool) (earlier : List Function) (path : List ℕ)
    (function : Function)
    → function_faults declared memory is_taken earlier path function ≡ []
    → HasNoneIn declared memory path function
function_none declared memory is_taken earlier path function none =
    behind_title (append-is_nil_right (title_faults is_taken earlier (at_key path (codes "name")) function) _ none)
  where
    behind_condition :
        condition_faults (condition_scope declared memory) (at_key path (codes "condition")) function.condition ≡ []
        → inputs_faults declared memory (at_key path (codes "inputs")) function.inputs
        ++ outputs_faults declared (at_key path (codes "outputs")) function.outputs
        ≡ []
        → HasNoneIn declared memory path function
    behind_condition of_condition more = record {
      condition = of_condition;
      inputs = append-is_nil_left _ _ more;
      outputs = append-is_nil_right (inputs_faults declared memory (at_key path (codes "inputs")) function.inputs) _ more;
    }

    behind_title :
        condition_faults (condition_scope declared memory) (at_key path (codes "condition")) function.condition
        ++ (inputs_faults declared memory (at_key path (codes "inputs")) function.inputs
        ++ outputs_faults declared (at_key path (codes "outputs")) function.outputs)
        ≡ []
        → HasNoneIn declared memory path function
    behind_title more =
        behind_condition
        (append-is_nil_left
        (condition_faults (condition_scope declared memory)
        (at_key path (codes "condition")) function.condition) _ more)
        (append-is_nil_right
        (condition_faults (condition_scope declared memory)
        (at_key path (codes "condition")) function.condition) _ more)

function_known :
    (declared : DeclaredNames) (memory : List Variable) (path : List ℕ) (function : Function)
    → HasNoneIn declared memory path function
    → IsFunctionKnown declared memory function
function_known declared memory path function parts = record {
  condition =
      condition_there (condition_scope declared memory)
      (at_key path (codes "condition")) function.condition parts.condition;
  inputs =
      λ k input at. input_known _ _ _ _ input (each_none _ 0 function.inputs k input k parts.inputs at (omega arith));
  outputs = λ k message at.
      not-false (is_among message declared.messages)
      (name_fault_where-none _ _ _ _ (append-is_nil_left _ _ (each_none _ 0 function.outputs k message k parts.outputs at (omega arith))));
}

pub used_declared : UsedNamesAreDeclared
used_declared model i j type function none at_type at_function =
    let path : List ℕ = at_number (at_key (at_number (at_key xmodel (codes "agents")) i) (codes "functions")) j in
    function_known (declared_by model) type.memory path function
    (function_none (declared_by model) type.memory
    (λ name. is_among name (names_of_functions (take i model.agents)))
    (take j type.functions) path function
    (each_none _ 0 type.functions j function j
    (append-is_nil_right _ _ (append-is_nil_right _ _ (agent_none model i type none at_type)))
    at_function (omega arith)))
