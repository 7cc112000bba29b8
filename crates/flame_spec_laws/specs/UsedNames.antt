-- Names that conditions, inputs and outputs use: in models without name faults each is declared, and each variable that
-- is read is a single one. [own]
use Rattle.std.specs.Prelude.{◌≡◌, ℕ, List, [], Bool, true, false, not, ◌&&◌, Option, Some, None, slice_get}
use Rattle.flame_spec.specs.declared.conditions.Condition.{Condition, fold-Condition}
use Rattle.flame_spec.specs.declared.conditions.Condition.TheOpen.{Condition-F}
use Rattle.flame_spec.specs.declared.conditions.Operand.{Operand}
use Rattle.flame_spec.specs.declared.conditions.Operand.TheVariants.{Number, Agent, Message}
use Rattle.flame_spec.specs.declared.models.Model.{Model}
use Rattle.flame_spec.specs.declared.models.AgentType.{AgentType}
use Rattle.flame_spec.specs.declared.models.Function.{Function}
use Rattle.flame_spec.specs.declared.models.Input.{Input}
use Rattle.flame_spec.specs.declared.models.Sort.{Sort}
use Rattle.flame_spec.specs.declared.models.Variable.{Variable}
use Rattle.flame_spec.specs.Columns.{variable_named, is_array}
use Rattle.flame_spec.specs.KnownNames.{is_among, DeclaredNames, declared_by}
use Rattle.flame_spec.specs.Leaves.{LeafScope}
use Rattle.flame_spec.specs.FunctionFaults.{condition_scope, filter_scope}
use Rattle.flame_spec.specs.NameFaults.{name_faults}

-- a variable was found, and it is no array
abbrev pub is_single : Option (ℕ × Variable) → Bool
is_single None = false
is_single (Some found) = not (is_array found.1)

-- one of the variables has this name, and it is a single one
abbrev pub has_single : List Variable → List ℕ → Bool
has_single variables name = is_single (variable_named variables name)

-- the variable that is compared is a single one that can be read there
abbrev pub knows_operand : LeafScope → Operand → Bool
knows_operand scope (Number number) = true
knows_operand scope (Agent name) = has_single scope.memory name
knows_operand scope (Message name) = has_single scope.message name

-- each variable of a form is a single one that can be read there, a phase too, and each unit is one of those there,
-- where its parts tell whether theirs are
abbrev pub knows_step : LeafScope → Condition-F Bool → Bool
knows_step scope (Condition-F.Compare op a b) = knows_operand scope a && knows_operand scope b
knows_step scope (Condition-F.And left right) = left && right
knows_step scope (Condition-F.Or left right) = left && right
knows_step scope (Condition-F.Not part) = part
knows_step scope (Condition-F.Time unit phase duration) = is_among unit scope.units && knows_operand scope phase

-- each variable of the condition is a single one that can be read there, and each unit is one of those there
abbrev pub knows : LeafScope → Condition → Bool
knows scope = fold-Condition Bool (knows_step scope)

-- the message that an input reads is declared, and so are the names in its filter and its sort; no random order is
-- asked for
pub record IsInputKnown (declared : DeclaredNames) (memory : List Variable) (input : Input) : Type 0 where
  pub message : is_among input.message declared.messages ≡ true
  pub order : input.random ≡ false
  pub filter :
      (condition : Condition)
      → input.filter ≡ Some condition
      → knows (filter_scope declared memory input.message) condition ≡ true
  pub sort : (sort : Sort) → input.sort ≡ Some sort → has_single (declared.variables input.message) sort.key ≡ true

-- the names in a function's condition, in its inputs and in its outputs are declared
pub record IsFunctionKnown (declared : DeclaredNames) (memory : List Variable) (function : Function) : Type 0 where
  pub condition :
      (condition : Condition)
      → function.condition ≡ Some condition
      → knows (condition_scope declared memory) condition ≡ true
  pub inputs :
      (k : ℕ) (input : Input)
      → slice_get function.inputs k ≡ Some input
      → IsInputKnown declared memory input
  pub outputs :
      (k : ℕ) (message : List ℕ)
      → slice_get function.outputs k ≡ Some message
      → is_among message declared.messages ≡ true

-- in a model without name faults the names that a function uses are declared, and the variables that it reads are
-- single ones of the memory or of the message
abbrev pub UsedNamesAreDeclared : Type 0
UsedNamesAreDeclared =
    (model : Model) (i j : ℕ) (type : AgentType) (function : Function)
    → name_faults model ≡ []
    → slice_get model.agents i ≡ Some type
    → slice_get type.functions j ≡ Some function
    → IsFunctionKnown (declared_by model) type.memory function
