-- The agents are read back from the members for them.
use Rattle.std.proofs.Common.{◌≡◌, ℕ, ◌+◌, ◌<◌, ◌≤◌, ◌==◌, List, [], ◌∷◌, ◌++◌, map, false, Some, refl, sym, ap, ap₂, subst, ◌∙◌, arith, append_assoc, append-nil}
use Rattle.std.specs.Prelude.{ℤ, option_and_then, if◌then◌else◌}
use Rattle.std.specs.List.{AllZip, flat_map}
use Rattle.std.specs.Option.{option_map_or}
use Rattle.std.proofs.lemmas.Bool.{eq-eqb, ne_eqb}
use Rattle.std.proofs.lemmas.List.Concat.{flat_map-append}
use Rattle.serde_json.specs.Data.{Data}
use Rattle.flame_rows.specs.Bags.{ascending}
use Rattle.flame_rows.proofs.BagLaws.{ascending-IsAscending}
use Rattle.flame_rows.proofs.Lists.{append-nils}
use Rattle.flame_spec.specs.declared.models.AgentType.{AgentType}
use Rattle.flame_spec.specs.declared.models.Variable.{Variable}
use Rattle.flame_spec.specs.Columns.{width}
use Rattle.flame_spec.specs.Lists.{each_from}
use Rattle.flame_meaning.specs.RangeLaws.{Each}
use Rattle.flame_world.specs.WorldLaws.{IsRowOf}
use Rattle.flame_popfile.specs.declared.formats.Format.{Format}
use Rattle.flame_popfile.specs.declared.formats.Format.TheVariants.{One, Two}
use Rattle.flame_popfile.specs.PopulationParts.{name_in, members_of, numbers_of}
use Rattle.flame_popfile.specs.PopulationFaults.{type_named}
use Rattle.flame_popfile.specs.PopulationAgents.{agents_in, is_of_type, agents_of_type, agents_of}
use Rattle.flame_popfile.proofs.PutMembers.{AllDiffer, each_stands}
use Rattle.flame_popfile.proofs.NameSearches.{AreNumbered}
use Rattle.flame_popfile.proofs.PopulationValues.{list_of, row_value, variable_pairs, agent_value, bag_value, type_values, agent_values}
use Rattle.flame_popfile.proofs.DifferentNames.{HasDifferentVariables}
use Rattle.flame_popfile.proofs.ReadRows.{items_back, row_back, memory_back, names_of-variables}
use Rattle.serde_json.specs.Data.{no_members}
use Rattle.flame_popfile.proofs.ClearMembers.{IsBagFor}

-- an agent is read as its row
memory_in :
    (type : AgentType) (row : List ℤ)
    → HasDifferentVariables type
    → IsRowOf (width type.memory) row
    → agents_in One type.memory (agent_value type row) ≡ row ∷ []
memory_in type row apart is =
    ap (λ r. r ∷ [])
    (memory_back _ type.memory row
    (each_stands (variable_pairs type.memory row) no_members
    (subst AllDiffer (sym (names_of-variables type.memory row)) apart))
    is.0 is.1)

pub numbers_of-row_value : (wide : ℕ) (bag : List (List ℤ)) → Each (IsRowOf wide) bag → map (numbers_of wide) (map row_value bag) ≡ bag
numbers_of-row_value wide [] rows = refl
numbers_of-row_value wide (row ∷ bag) rows = ap₂ (λ r rs. r ∷ rs) (row_back wide row rows.0.1) (numbers_of-row_value wide bag rows.1)

rows_in :
    (name : List ℕ) (variables : List Variable) (bag : List (List ℤ))
    → Each (IsRowOf (width variables)) bag → agents_in Two variables (bag_value name bag) ≡ bag
rows_in name variables bag rows =
    ap (map (numbers_of (width variables))) (items_back (map row_value bag)) ∙ numbers_of-row_value (width variables) bag rows

-- what a member gives to the type of this number
abbrev given : Format → List AgentType → ℕ → List Variable → Data → List (List ℤ)
given format all number variables value =
    if is_of_type all number value then agents_in format variables value else []

-- a member gives what it holds to its own type
gives_own :
    (format : Format) (all : List AgentType) (number : ℕ) (type : AgentType) (variables : List Variable) (value : Data)
    → name_in value ≡ Some type.name
    → type_named all type.name ≡ Some (number, type)
    → given format all number variables value ≡ agents_in format variables value
gives_own format all number type variables value named found =
    ap
    (λ o. if option_map_or (λ (found : ℕ × AgentType). found.0 == number) (option_and_then (type_named all) o) false
    then agents_in format variables value else [])
    named
    ∙ ap
    (λ o. if option_map_or (λ (found : ℕ × AgentType). found.0 == number) o false
    then agents_in format variables value else [])
    found
    ∙ ap (λ b. if b then agents_in format variables value else []) (eq-eqb number number refl)

-- and nothing to others
gives_no_other :
    (format : Format) (all : List AgentType) (number other : ℕ) (type : AgentType) (variables : List Variable)
    (value : Data)
    → name_in value ≡ Some type.name
    → type_named all type.name ≡ Some (number, type)
    → (number ≡ other → ⊥)
    → given format all other variables value ≡ []
gives_no_other format all number other type variables value named found apart =
    ap
    (λ o. if option_map_or (λ (found : ℕ × AgentType). found.0 == other) (option_and_then (type_named all) o) false
    then agents_in format variables value else [])
    named
    ∙ ap
    (λ o. if option_map_or (λ (found : ℕ × AgentType). found.0 == other) o false
    then agents_in format variables value else [])
    found
    ∙ ap (λ b. if b then agents_in format variables value else []) (ne_eqb number other apart)

-- the members for a type give its bag to it
own_given :
    (format : Format) (all : List AgentType) (number : ℕ) (type : AgentType) (bag : List (List ℤ))
    → type_named all type.name ≡ Some (number, type)
    → HasDifferentVariables type
    → Each (IsRowOf (width type.memory)) bag
    → flat_map (given format all number type.memory) (type_values format type bag) ≡ bag
own_given One all number type [] found apart rows = refl
own_given One all number type (row ∷ bag) found apart rows =
    ap₂ (λ a b. a ++ b)
    (gives_own One all number type type.memory (agent_value type row) refl found ∙ memory_in type row apart rows.0)
    (own_given One all number type bag found apart rows.1)
own_given Two all number type bag found apart rows =
    append-nil (given Two all number type.memory (bag_value type.name bag))
    ∙ gives_own Two all number type type.memory (bag_value type.name bag) refl found
    ∙ rows_in type.name type.memory bag rows

-- and nothing to others
none_given :
    (format : Format) (all : List AgentType) (number other : ℕ) (type : AgentType) (bag : List (List ℤ))
    (variables : List Variable)
    → type_named all type.name ≡ Some (number, type)
    → (number ≡ other → ⊥)
    → flat_map (given format all other variables) (type_values format type bag) ≡ []
none_given One all number other type [] variables found apart = refl
none_given One all number other type (row ∷ bag) variables found apart =
    append-nils (given One all other variables (agent_value type row)) _
    (gives_no_other One all number other type variables (agent_value type row) refl found apart)
    (none_given One all number other type bag variables found apart)
none_given Two all number other type bag variables found apart =
    append-nil (given Two all other variables (bag_value type.name bag))
    ∙ gives_no_other Two all number other type variables (bag_value type.name bag) refl found apart

-- later members give nothing to an earlier type
none_later :
    (format : Format) (all : List AgentType) (number i : ℕ) (variables : List Variable) (types : List AgentType)
    (bags : List (List (List ℤ)))
    → number < i
    → AreNumbered all i types
    → AllZip IsBagFor types bags
    → flat_map (given format all number variables) (agent_values format types bags) ≡ []
none_later format all number i variables [] [] below found are = refl
none_later format all number i variables [] (bag ∷ bags) below found are = absurd are
none_later format all number i variables (type ∷ types) [] below found are = absurd are
none_later format all number i variables (type ∷ types) (bag ∷ bags) below found are =
    flat_map-append (given format all number variables) (type_values format type bag) (agent_values format types bags)
    ∙ append-nils (flat_map (given format all number variables) (type_values format type bag)) _
    (none_given format all i number type bag variables found.0 (λ e. omega arith))
    (none_later format all number (i + 1) variables types bags (omega arith) found.1 are.1)

bags_back :
    (format : Format) (all : List AgentType) (values before : List Data) (i : ℕ) (types : List AgentType)
    (bags : List (List (List ℤ)))
    → values ≡ before ++ agent_values format types bags
    → ((number : ℕ) (variables : List Variable) → i ≤ number → flat_map (given format all number variables) before ≡ [])
    → AreNumbered all i types
    → Each HasDifferentVariables types
    → AllZip IsBagFor types bags
    → each_from (λ number type. ascending (agents_of_type format all values number type.memory) ∷ []) i types ≡ bags
bags_back format all values before i [] [] split none found apart are = refl
bags_back format all values before i [] (bag ∷ bags) split none found apart are = absurd are
bags_back format all values before i (type ∷ types) [] split none found apart are = absurd are
bags_back format all values before i (type ∷ types) (bag ∷ bags) split none found apart are =
    ap₂ (λ b bs. b ∷ bs)
    (ap ascending
    (ap (flat_map own) split
    ∙ flat_map-append own before (block ++ rest)
    ∙ ap₂ (λ a b. a ++ b) (none i type.memory (omega arith))
    (flat_map-append own block rest
    ∙ ap₂ (λ a b. a ++ b)
    (own_given format all i type bag found.0 apart.0 are.0.1)
    (none_later format all i (i + 1) type.memory types bags (omega arith) found.1 are.1))
    ∙ append-nil bag)
    ∙ ascending-IsAscending bag are.0.0)
    (bags_back format all values (before ++ block) (i + 1) types bags
    (split ∙ sym (append_assoc before block rest))
    (λ number variables above.
    flat_map-append (given format all number variables) before block
    ∙ append-nils (flat_map (given format all number variables) before) _ (none number variables (omega arith))
    (none_given format all i number type bag variables found.0 (λ e. omega arith)))
    found.1 apart.1 are.1)
  where
    own : Data → List (List ℤ)
    own = given format all i type.memory

    block : List Data
    block = type_values format type bag

    rest : List Data
    rest = agent_values format types bags

-- the bags are read as they are
pub agents_back :
    (format : Format) (types : List AgentType) (bags : List (List (List ℤ)))
    → AreNumbered types 0 types
    → Each HasDifferentVariables types
    → AllZip IsBagFor types bags
    → agents_of format types (members_of (list_of (agent_values format types bags))) ≡ bags
agents_back format types bags found apart are =
    let values = agent_values format types bags in
    ap (agents_of format types) (items_back values)
    ∙ bags_back format types values [] 0 types bags refl (λ number variables above. refl) found apart are
