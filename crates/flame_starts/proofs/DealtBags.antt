-- The bags of what was dealt out are the agents that the value holds.
use Rattle.std.proofs.Common.{◌≡◌, ℕ, ◌++◌, List, [], ◌∷◌, map, Bool, true, false, cond, Option, Some, refl, sym, ap, ap₂, subst, ◌∙◌}
use Rattle.std.specs.Prelude.{ℤ, ◌==◌, slice_get, if◌then◌else◌}
use Rattle.std.specs.Option.{option_map_or}
use Rattle.std.proofs.lemmas.Bool.{eqb-true}
use Rattle.std.proofs.lemmas.Option.{slice_get_within}
use Rattle.serde_json.specs.Data.{no_members}
use Rattle.flame_rows.specs.Bags.{ascending}
use Rattle.flame_spec.specs.declared.models.AgentType.{AgentType}
use Rattle.flame_meaning.specs.RangeLaws.{IsInt, Each}
use Rattle.flame_world.proofs.Eachs.{all_each}
use Rattle.flame_popfile.specs.declared.formats.Format.TheVariants.{One}
use Rattle.flame_popfile.specs.PopulationAgents.{agents_in, is_of_type, agents_of_type, agents_of}
use Rattle.flame_popfile.specs.PopulationParts.{members_of}
use Rattle.flame_popfile.specs.DealtAgents as popfile
use Rattle.flame_popfile.proofs.PutMembers.{AllDiffer, each_stands}
use Rattle.flame_popfile.proofs.NameSearches.{AreNumbered}
use Rattle.flame_popfile.proofs.PopulationValues.{list_of, variable_pairs}
use Rattle.flame_popfile.proofs.DifferentNames.{HasDifferentVariables}
use Rattle.flame_popfile.proofs.ReadRows.{items_back, memory_back, names_of-variables}
use Rattle.flame_popfile.proofs.Dealing.{bags_dealt}
use Rattle.flame_tokens.specs.AgentTrees.{Listed, IsOfTypes, AreDealt, row_for, rows_for}
use Rattle.flame_starts.proofs.KnownTypes.{type_found}
use Rattle.flame_starts.proofs.ClearAgents.{apart_of}
use Rattle.flame_starts.proofs.TreeValues.{listed_value}

-- an agent is read as its row
row_back :
    (types : List AgentType) (listed : Listed)
    → Each HasDifferentVariables types
    → IsOfTypes types listed
    → agents_in One listed.type.memory (listed_value listed) ≡ listed.row ∷ []
row_back types listed apart is =
    let variables = listed.type.memory in
    ap (λ r. r ∷ [])
    (memory_back _ variables listed.row
    (each_stands (variable_pairs variables listed.row) no_members
    (subst AllDiffer (sym (names_of-variables variables listed.row)) (apart_of types listed apart is)))
    is.wide.count (all_each IsInt listed.row is.wide.ints))

-- what an agent gives to the type of a number
given_same :
    (types : List AgentType) (number : ℕ) (type : AgentType) (listed : Listed)
    → slice_get types number ≡ Some type
    → AreNumbered types 0 types
    → Each HasDifferentVariables types
    → IsOfTypes types listed
    → row_for number listed
    ≡ (if is_of_type types number (listed_value listed) then agents_in One type.memory (listed_value listed) else [])
given_same types number type listed there numbered apart is =
    by_test (listed.number == number) refl
    ∙ sym
    (ap
    (λ (o : Option (ℕ × AgentType)). if option_map_or (λ (one : ℕ × AgentType). one.0 == number) o false
    then agents_in One type.memory (listed_value listed) else [])
    (type_found types listed numbered is))
  where
    own : listed.number ≡ number → listed.row ∷ [] ≡ agents_in One type.memory (listed_value listed)
    own same =
        let type_same : listed.type ≡ type = cc (is.stands, there, ap (slice_get types) same) in
        sym (row_back types listed apart is)
        ∙ ap (λ (t : AgentType). agents_in One t.memory (listed_value listed)) type_same

    by_test :
        (b : Bool) → (listed.number == number) ≡ b
        → cond b (listed.row ∷ []) [] ≡ cond b (agents_in One type.memory (listed_value listed)) []
    by_test true e = own (eqb-true listed.number number e)
    by_test false e = refl

rows_same :
    (types : List AgentType) (number : ℕ) (type : AgentType) (all : List Listed)
    → slice_get types number ≡ Some type
    → AreNumbered types 0 types
    → Each HasDifferentVariables types
    → Each (IsOfTypes types) all
    → rows_for number all ≡ agents_of_type One types (map listed_value all) number type.memory
rows_same types number type [] there numbered apart are = refl
rows_same types number type (listed ∷ all) there numbered apart are =
    ap₂ (λ a b. a ++ b) (given_same types number type listed there numbered apart are.0)
    (rows_same types number type all there numbered apart are.1)

-- the bags of what was dealt out
pub bags_same :
    (types : List AgentType) (all : List Listed) (dealt : List (List (List ℤ)))
    → AreNumbered types 0 types
    → Each HasDifferentVariables types
    → Each (IsOfTypes types) all
    → AreDealt types all dealt
    → map ascending dealt ≡ agents_of One types (members_of (list_of (map listed_value all)))
bags_same types all dealt numbered apart are is =
    let values = map listed_value all in
    let same : popfile.AreDealt One types values dealt =
    record {
      count = is.count;
      agents = λ number type there.
          is.rows number (slice_get_within types number type there)
          ∙ rows_same types number type all there numbered apart are;
    } in
    bags_dealt One types values dealt same ∙ sym (ap (agents_of One types) (items_back values))
