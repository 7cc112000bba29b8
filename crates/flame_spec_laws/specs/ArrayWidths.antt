-- How wide rows are: in models without name faults the columns of arrays end within 4,096. [own]
use Rattle.std.specs.Prelude.{◌≡◌, ℕ, ◌+◌, ◌<◌, ◌≤◌, ◌^◌, List, [], ◌∷◌, ◌++◌, take, length, true, Some, IsTrue}
use Rattle.std.specs.Prelude.{slice_get}
use Rattle.std.specs.List.{list_all}
use Rattle.std.specs.Option.{is_none}
use Rattle.flame_spec.specs.declared.models.Model.{Model}
use Rattle.flame_spec.specs.declared.models.Variable.{Variable}
use Rattle.flame_spec.specs.declared.models.MessageType.{MessageType}
use Rattle.flame_spec.specs.declared.models.AgentType.{AgentType}
use Rattle.flame_spec.specs.Columns.{width_of, width, is_array, variable_named}
use Rattle.flame_spec.specs.Counted.{is_counted}
use Rattle.flame_spec.specs.NameFaults.{name_faults}

-- arrays that stand within 4,096 columns
pub record AreNear (variables : List Variable) : Type 0 where
  -- the columns of each array end within 4,096
  pub arrays :
      (k : ℕ) (variable : Variable)
      → slice_get variables k ≡ Some variable
      → is_array variable ≡ true
      → width (take k variables) + width_of variable ≤ 4096
  -- and so do those of each that is found by its name
  pub columns :
      (name : List ℕ) (found : ℕ × Variable)
      → variable_named variables name ≡ Some found
      → is_array found.1 ≡ true
      → found.0 + width_of found.1 ≤ 4096
  -- a row that ends in an array is at most 4,096 numbers wide
  pub last :
      (earlier : List Variable) (variable : Variable)
      → variables ≡ earlier ++ variable ∷ []
      → is_array variable ≡ true
      → width variables ≤ 4096
  -- each row is at most 4,095 numbers wider than it has variables
  pub whole : width variables ≤ length variables + 4095

-- in a model without name faults the arrays of each memory stand within 4,096 columns
abbrev pub MemoryArraysAreNear : Type 0
MemoryArraysAreNear =
    (model : Model) (i : ℕ) (type : AgentType)
    → name_faults model ≡ []
    → slice_get model.agents i ≡ Some type
    → AreNear type.memory

-- and so do the arrays of each message
abbrev pub MessageArraysAreNear : Type 0
MessageArraysAreNear =
    (model : Model) (i : ℕ) (message : MessageType)
    → name_faults model ≡ []
    → slice_get model.messages i ≡ Some message
    → AreNear message.variables

-- single variables take one column each
abbrev pub SinglesAreCounted : Type 0
SinglesAreCounted =
    (variables : List Variable)
    → list_all (λ variable. is_none variable.length) variables ≡ true
    → width variables ≡ length variables

-- where the parts of a model can be numbered, no memory is too wide for columns
abbrev pub MemoriesAreNarrow : Type 0
MemoriesAreNarrow =
    (model : Model) (i : ℕ) (type : AgentType)
    → IsTrue (is_counted model)
    → slice_get model.agents i ≡ Some type
    → width type.memory < 2 ^ 32

-- nor is a message
abbrev pub MessagesAreNarrow : Type 0
MessagesAreNarrow =
    (model : Model) (i : ℕ) (message : MessageType)
    → IsTrue (is_counted model)
    → slice_get model.messages i ≡ Some message
    → width message.variables < 2 ^ 32
