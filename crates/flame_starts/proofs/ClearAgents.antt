-- Agents that were read have no fault.
use Rattle.std.proofs.Common.{◌≡◌, ℕ, List, [], map, Option, codes, ap, ◌∙◌}
use Rattle.std.specs.Prelude.{is_some, if◌then◌else◌}
use Rattle.std.specs.Option.{option_map_or}
use Rattle.flame_rows.proofs.Lists.{append-nils}
use Rattle.serde_json.specs.Data.{Data}
use Rattle.flame_spec.specs.declared.models.AgentType.{AgentType}
use Rattle.flame_spec.specs.Paths.{at_key, at_number}
use Rattle.flame_meaning.specs.RangeLaws.{IsInt, Each}
use Rattle.flame_meaning.proofs.Eachs.{each_at}
use Rattle.flame_world.proofs.Eachs.{all_each, each_map}
use Rattle.flame_popfile.specs.declared.formats.Format.TheVariants.{One}
use Rattle.flame_popfile.specs.declared.faults.PopKind.TheVariants.{UnknownAgent}
use Rattle.flame_popfile.specs.PopulationParts.{refused, list_faults}
use Rattle.flame_popfile.specs.PopulationFaults.{type_named, content_faults, member_name_faults, agent_faults, agents_faults}
use Rattle.flame_popfile.proofs.NameSearches.{AreNumbered}
use Rattle.flame_popfile.proofs.PopulationValues.{list_of}
use Rattle.flame_popfile.proofs.DifferentNames.{HasDifferentVariables}
use Rattle.flame_popfile.proofs.ReadRows.{items_back, each_clear, memory_clear}
use Rattle.flame_tokens.specs.AgentTrees.{Listed, IsOfTypes}
use Rattle.flame_starts.proofs.KnownTypes.{type_found}
use Rattle.flame_starts.proofs.TreeValues.{listed_value}

-- the variables of an agent's type have different names
pub apart_of :
    (types : List AgentType) (listed : Listed)
    → Each HasDifferentVariables types → IsOfTypes types listed → HasDifferentVariables listed.type
apart_of types listed apart is = each_at HasDifferentVariables types listed.number listed.type apart is.stands

-- an agent has no fault, at whatever path
listed_clear :
    (types : List AgentType) (path : List ℕ) (listed : Listed)
    → AreNumbered types 0 types
    → Each HasDifferentVariables types
    → IsOfTypes types listed
    → agent_faults One types [] path (listed_value listed) ≡ []
listed_clear types path listed numbered apart is =
    let found = type_found types listed numbered is in
    let value = listed_value listed in
    append-nils (member_name_faults types [] path value)
    (option_map_or (λ (found : ℕ × AgentType). content_faults One found.1 path value) (type_named types listed.type.name) [])
    (ap (λ (o : Option (ℕ × AgentType)). if is_some o then [] else refused UnknownAgent (at_key path (codes "name"))) found)
    (ap (λ (o : Option (ℕ × AgentType)). option_map_or (λ (found : ℕ × AgentType). content_faults One found.1 path value) o [])
    found
    ∙ memory_clear listed.type.memory (at_key path (codes "memory")) listed.row (apart_of types listed apart is)
    is.wide.count (all_each IsInt listed.row is.wide.ints))

abbrev IsClearMember : List AgentType → Data → Type 0
IsClearMember types value = (path : List ℕ) → agent_faults One types [] path value ≡ []

-- the list of them has no fault
pub listed_clear_all :
    (types : List AgentType) (path : List ℕ) (all : List Listed)
    → AreNumbered types 0 types
    → Each HasDifferentVariables types
    → Each (IsOfTypes types) all
    → list_faults (agents_faults One types) path (list_of (map listed_value all)) ≡ []
listed_clear_all types path all numbered apart are =
    let values = map listed_value all in
    ap (agents_faults One types path) (items_back values)
    ∙ each_clear (IsClearMember types) (λ number value. agent_faults One types [] (at_number path number) value) 0 values
    (λ n value clear. clear (at_number path n))
    (each_map (IsOfTypes types) (IsClearMember types) listed_value
    (λ listed is path. listed_clear types path listed numbered apart is) all are)
