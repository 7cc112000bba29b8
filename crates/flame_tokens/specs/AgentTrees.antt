-- The agents of a population: as they stand in its text, and each type's.
use Rattle.std.specs.Prelude.{◌≡◌, ℕ, ℤ, ◌<◌, ◌==◌, List, [], ◌∷◌, ◌++◌, map, length, Some, slice_get, slice_index_or, All, if◌then◌else◌}
use Rattle.std.specs.List.{flat_map}
use Rattle.json.specs.Token.{Token, begin_object, begin_array}
use Rattle.json.specs.Json.{Json}
use Rattle.json.specs.Tree.{json_tokens}
use Rattle.flame_spec.specs.declared.models.AgentType.{AgentType}
use Rattle.flame_spec.specs.Columns.{width}
use Rattle.flame_tokens.specs.NumberTrees.{list_tree, begun}
use Rattle.flame_tokens.specs.MemberTrees.{agent_tree, IsWide}

-- the type of this number has the name [own]
pub record IsNamed (types : List AgentType) (number : ℕ) (name : List ℕ) (type : AgentType) : Type 0 where
  pub stands : slice_get types number ≡ Some type
  pub named : type.name ≡ name

-- an agent, with its type and the type's number [own]
pub record Listed : Type 0 where
  pub number : ℕ
  pub type : AgentType
  pub row : List ℤ

-- it is one of these types, and its row is as wide as that declares, with all numbers within int [own]
pub record IsOfTypes (types : List AgentType) (listed : Listed) : Type 0 where
  pub stands : slice_get types listed.number ≡ Some listed.type
  pub wide : IsWide (width listed.type.memory) listed.row

-- its tree [own]
abbrev pub listed_tree : Listed → Json
listed_tree listed = agent_tree listed.type listed.row

-- the list of these [own]
abbrev pub agents_tree : List Listed → Json
agents_tree all = list_tree (map listed_tree all)

-- the row of an agent, where it is of the type of this number [own]
abbrev pub row_for : ℕ → Listed → List (List ℤ)
row_for number listed = if listed.number == number then listed.row ∷ [] else []

-- the rows of all that are of the type of this number, in their order [own]
abbrev pub rows_for : ℕ → List Listed → List (List ℤ)
rows_for number all = flat_map (row_for number) all

-- each type has its agents of these, in their order [own]
pub record AreDealt (types : List AgentType) (all : List Listed) (dealt : List (List (List ℤ))) : Type 0 where
  pub count : length dealt ≡ length types
  pub rows : (number : ℕ) → number < length types → slice_index_or dealt number [] ≡ rows_for number all

-- a row was added to those of the type of this number [own]
pub record IsDealt (number : ℕ) (row : List ℤ) (before after : List (List (List ℤ))) : Type 0 where
  pub count : length after ≡ length before
  pub rows :
      (other : ℕ)
      → slice_index_or after other []
      ≡ slice_index_or before other [] ++ (if number == other then row ∷ [] else [])

-- behind the brace that opens it, an agent was read, and added to those of its type [own]
pub record IsAdded
    (types : List AgentType) (old new : List Token) (before after : List (List (List ℤ))) : Type 0 where
  pub listed : Listed
  pub tokens : begin_object ∷ old ≡ json_tokens (listed_tree listed) ++ new
  pub known : IsOfTypes types listed
  pub dealt : IsDealt listed.number listed.row before after

-- of a list that has begun agents were read, and dealt out to their types [own]
pub record AreBegun (types : List AgentType) (first now : List Token) (dealt : List (List (List ℤ))) : Type 0 where
  pub all : List Listed
  pub tokens : first ≡ begin_array ∷ (begun (map listed_tree all) ++ now)
  pub known : All (IsOfTypes types) all
  pub dealt_are : AreDealt types all dealt

-- a list of agents was read, and dealt out to their types [own]
pub record AreRead (types : List AgentType) (old new : List Token) (dealt : List (List (List ℤ))) : Type 0 where
  pub all : List Listed
  pub tokens : old ≡ json_tokens (agents_tree all) ++ new
  pub known : All (IsOfTypes types) all
  pub dealt_are : AreDealt types all dealt

-- the tree is a list of agents, which are dealt out to their types [own]
pub record AreListed (types : List AgentType) (tree : Json) (dealt : List (List (List ℤ))) : Type 0 where
  pub all : List Listed
  pub tree_is : tree ≡ agents_tree all
  pub known : All (IsOfTypes types) all
  pub dealt_are : AreDealt types all dealt
