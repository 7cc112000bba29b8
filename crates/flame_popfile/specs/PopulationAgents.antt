-- The constants and the agents that a population's value holds.
use Rattle.std.specs.Prelude.{ℕ, ◌==◌, ℤ, List, [], ◌∷◌, map, length, codes, Bool, false, if◌then◌else◌}
use Rattle.std.specs.List.{flat_map}
use Rattle.std.specs.Option.{option_map_or}
use Rattle.serde_json.specs.Data.{Data}
use Rattle.flame_rows.specs.Bags.{ascending}
use Rattle.flame_spec.specs.declared.models.AgentType.{AgentType}
use Rattle.flame_spec.specs.declared.models.Variable.{Variable}
use Rattle.flame_spec.specs.Columns.{width}
use Rattle.flame_spec.specs.Lists.{each}
use Rattle.flame_xmml.specs.ValueParts.{part}
use Rattle.flame_popfile.specs.declared.formats.Format.{Format}
use Rattle.flame_popfile.specs.declared.formats.Format.TheVariants.{One, Two}
use Rattle.flame_popfile.specs.PopulationParts.{members_of, number_of, numbers_of, variable_numbers}
use Rattle.flame_popfile.specs.PopulationFaults.{type_in}

-- the values of the constants of these names [FLAME User Manual; 2: own]
abbrev pub constants_of : Format → List (List ℕ) → Data → List ℤ
constants_of One names environment = map (λ name. number_of (part name environment)) names
constants_of Two names environment = numbers_of (length names) environment

-- the memory of an agent with these variables [FLAME User Manual]
abbrev pub memory_of : List Variable → Data → List ℤ
memory_of variables memory =
    flat_map (λ variable. variable_numbers variable.length (part variable.name memory)) variables

-- the agents that a member holds, which is of a type with these variables: one, or a row for each
-- [FLAME User Manual; 2: own]
abbrev pub agents_in : Format → List Variable → Data → List (List ℤ)
agents_in One variables value = memory_of variables (part (codes "memory") value) ∷ []
agents_in Two variables value = map (numbers_of (width variables)) (members_of (part (codes "rows") value))

-- the member names the type of this number [own]
abbrev pub is_of_type : List AgentType → ℕ → Data → Bool
is_of_type types number value =
    option_map_or (λ found. found.0 == number) (type_in types value) false

-- all agents of the type of this number, with these variables, in the order of the members [own]
abbrev pub agents_of_type : Format → List AgentType → List Data → ℕ → List Variable → List (List ℤ)
agents_of_type format types values number variables =
    flat_map (λ value. if is_of_type types number value then agents_in format variables value else []) values

-- the agents of each type [FLAME User Manual]
abbrev pub agents_of : Format → List AgentType → List Data → List (List (List ℤ))
agents_of format types values =
    each (λ number type. ascending (agents_of_type format types values number type.memory) ∷ []) types
