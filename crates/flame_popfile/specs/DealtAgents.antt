-- Agents that are dealt out to their types, member by member.
use Rattle.std.specs.Prelude.{◌≡◌, ℕ, ℤ, List, [], ◌∷◌, ◌++◌, length, Some, slice_get, slice_index_or, if◌then◌else◌}
use Rattle.serde_json.specs.Data.{Data}
use Rattle.flame_spec.specs.declared.models.AgentType.{AgentType}
use Rattle.flame_popfile.specs.declared.formats.Format.{Format}
use Rattle.flame_popfile.specs.declared.formats.Format.TheVariants.{One, Two}
use Rattle.flame_popfile.specs.PopulationAgents.{agents_in, is_of_type, agents_of_type}

-- each type has its agents of these members, in their order [own]
pub record AreDealt
    (format : Format) (types : List AgentType) (values : List Data) (dealt : List (List (List ℤ))) : Type 0 where
  pub count : length dealt ≡ length types
  pub agents :
      (number : ℕ) (type : AgentType)
      → slice_get types number ≡ Some type
      → slice_index_or dealt number [] ≡ agents_of_type format types values number type.memory

-- the agents of one member more were added to those of its type, and no others [own]
pub record AreAdded
    (format : Format) (types : List AgentType) (value : Data) (before after : List (List (List ℤ))) : Type 0 where
  pub count : length after ≡ length before
  pub agents :
      (number : ℕ) (type : AgentType)
      → slice_get types number ≡ Some type
      → slice_index_or after number []
      ≡ slice_index_or before number []
      ++ (if is_of_type types number value then agents_in format type.memory value else [])

-- the name that a later member may not have again, where there is one [own]
abbrev pub names_taken : Format → List ℕ → List (List ℕ)
names_taken One name = []
names_taken Two name = name ∷ []
