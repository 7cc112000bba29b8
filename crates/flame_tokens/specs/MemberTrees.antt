-- The trees that texts are, as json reads them: memories and agents.
use Rattle.std.specs.Prelude.{◌≡◌, ℕ, ℤ, pos, List, [], ◌∷◌, take, drop, length, codes, Option, Some, None, true, slice_index_or, All}
use Rattle.std.specs.List.{flat_map}
use Rattle.json.specs.Token.{Token, key}
use Rattle.json.specs.Json.{Json, string, object, Members, no_members, member}
use Rattle.json.specs.Tree.{json_tokens}
use Rattle.flame_ops.specs.Integers.{is_int}
use Rattle.flame_spec.specs.declared.models.AgentType.{AgentType}
use Rattle.flame_spec.specs.declared.models.Variable.{Variable}
use Rattle.flame_spec.specs.Columns.{width_of}
use Rattle.flame_tokens.specs.NumberTrees.{number_tree, row_tree}

-- these values behind their names, one behind another [own]
abbrev pub members_tree : List (List ℕ × Json) → Members
members_tree [] = no_members
members_tree (pair ∷ pairs) = member pair.0 pair.1 (members_tree pairs)

-- the object of these [own]
abbrev pub object_tree : List (List ℕ × Json) → Json
object_tree pairs = object (members_tree pairs)

-- the tokens of these, as they stand in an object that has begun [own]
abbrev pub keyed : List (List ℕ × Json) → List Token
keyed pairs = flat_map (λ pair. key pair.0 ∷ json_tokens pair.1) pairs

-- the numbers of a variable, with which a row begins [own]
abbrev pub variable_tree : Option ℕ → List ℤ → Json
variable_tree None row = number_tree (slice_index_or row 0 (pos 0))
variable_tree (Some length) row = row_tree (take length row)

-- the variables of a row by their names [own]
abbrev pub variable_trees : List Variable → List ℤ → List (List ℕ × Json)
variable_trees [] row = []
variable_trees (variable ∷ variables) row =
    (variable.name, variable_tree variable.length row) ∷ variable_trees variables (drop (width_of variable) row)

-- a row as an object [own]
abbrev pub memory_tree : List Variable → List ℤ → Json
memory_tree variables row = object_tree (variable_trees variables row)

-- an object of a name and of what stands at one key more [own]
abbrev pub named_tree : List ℕ → List ℕ → Json → Json
named_tree name other inside = object_tree ((codes "name", string name) ∷ (other, inside) ∷ [])

-- an agent of this type [own]
abbrev pub agent_tree : AgentType → List ℤ → Json
agent_tree type row = named_tree type.name (codes "memory") (memory_tree type.memory row)

-- all numbers are within int [own]
abbrev pub AllInts : List ℤ → Type 0
AllInts row = All (λ number. is_int number ≡ true) row

-- a row of this width, with all numbers within int [own]
pub record IsWide (wide : ℕ) (row : List ℤ) : Type 0 where
  pub count : length row ≡ wide
  pub ints : AllInts row
