-- A population that was read by its tokens holds the start that was made of it.
use Rattle.std.proofs.Common.{◌≡◌, ℕ, List, [], ◌∷◌, ◌++◌, map, length, Bool, true, false, Option, Some, None, option_map, IfSome, codes, refl, sym, ap, ap₂, ◌∙◌}
use Rattle.std.specs.Prelude.{ℤ, pos, int_le, ◌+ℤ◌, ◌&&◌, is_some, unwrap_or, replicate, if◌then◌else◌}
use Rattle.json.specs.Json.{Json}
use Rattle.serde_json.specs.Data.{Data, null}
use Rattle.serde_json.specs.Read.{read}
use Rattle.flame_rows.specs.Bags.{ascending}
use Rattle.flame_rows.proofs.Lists.{append-nils}
use Rattle.flame_spec.specs.declared.models.Model.{Model}
use Rattle.flame_spec.specs.Paths.{root, at_key}
use Rattle.flame_xmml.specs.ValueParts.{part}
use Rattle.flame_spec.specs.NameFaults.{name_faults}
use Rattle.flame_meaning.specs.RangeLaws.{IsInt}
use Rattle.flame_world.proofs.Eachs.{all_each}
use Rattle.flame_popfile.specs.declared.faults.PopFault.{PopFault}
use Rattle.flame_popfile.specs.declared.faults.PopKind.TheVariants.{Shape, IterationLimit}
use Rattle.flame_popfile.specs.declared.formats.Format.{Format}
use Rattle.flame_popfile.specs.declared.formats.Format.TheVariants.{One}
use Rattle.flame_popfile.specs.declared.starts.Start.{Start}
use Rattle.flame_popfile.specs.PopulationParts.{refused, is_itno, number_of, optional, unless_missing, number_faults, list_faults, members_of}
use Rattle.flame_popfile.specs.PopulationFaults.{agents_faults, environment_faults, format_named, format_of, version_faults, itno_of, limit_faults, world_faults, states_faults}
use Rattle.flame_popfile.specs.PopulationAgents.{constants_of, agents_of}
use Rattle.flame_popfile.specs.PopulationStarts.{world_of, states_start}
use Rattle.flame_popfile.proofs.NameSearches.{types_numbered}
use Rattle.flame_popfile.proofs.PopulationValues.{int_value}
use Rattle.flame_popfile.proofs.PutMembers.{AllDiffer}
use Rattle.flame_popfile.proofs.DifferentNames.{HasDifferentNames, different_names}
use Rattle.flame_popfile.proofs.ReadRows.{number_back, number_clear, row_back, row_clear, constants_clear, constants_back}
use Rattle.flame_tokens.specs.AgentTrees.{IsOfTypes}
use Rattle.flame_tokens.specs.PopulationTrees.{is_two, Contents, IsItno, AreConstants, AreAgents, AreContents, IsPopulation, number_or, values_or}
use Rattle.flame_starts.specs.HeldStarts.{HoldsStart}
use Rattle.flame_starts.proofs.TreeValues.{format_by, environment_data, agents_value, boards_value, states_value, states_of, population_value, population_read}
use Rattle.flame_starts.proofs.ClearAgents.{listed_clear_all}
use Rattle.flame_starts.proofs.DealtBags.{bags_same}
use Rattle.flame_starts.proofs.BagRows.{bags_clear, bags_held}

-- ---- what stands in the states

-- the value, null where none stands there
abbrev or_null : Option Data → Data
or_null value = unwrap_or value null

record Stands (two : Bool) (itno : Option ℤ) (constants : Option Data) (members states : Data) : Type 0 where
  version : format_named states ≡ Some (format_by two)
  number : part (codes "itno") states ≡ or_null (option_map int_value itno)
  environment : part (codes "environment") states ≡ or_null constants
  agents : part (codes "agents") states ≡ members

stands :
    (version : Option Bool) (itno : Option ℤ) (environment : Option Data) (agents : Data) (boards : Option Data)
    → Stands (is_two version) itno environment agents (states_value version itno environment agents boards)
stands None None None agents None =
    record { version = refl; number = refl; environment = refl; agents = refl }
stands None None None agents (Some boards) =
    record { version = refl; number = refl; environment = refl; agents = refl }
stands None None (Some environment) agents None =
    record { version = refl; number = refl; environment = refl; agents = refl }
stands None None (Some environment) agents (Some boards) =
    record { version = refl; number = refl; environment = refl; agents = refl }
stands None (Some itno) None agents None =
    record { version = refl; number = refl; environment = refl; agents = refl }
stands None (Some itno) None agents (Some boards) =
    record { version = refl; number = refl; environment = refl; agents = refl }
stands None (Some itno) (Some environment) agents None =
    record { version = refl; number = refl; environment = refl; agents = refl }
stands None (Some itno) (Some environment) agents (Some boards) =
    record { version = refl; number = refl; environment = refl; agents = refl }
stands (Some false) None None agents None =
    record { version = refl; number = refl; environment = refl; agents = refl }
stands (Some false) None None agents (Some boards) =
    record { version = refl; number = refl; environment = refl; agents = refl }
stands (Some false) None (Some environment) agents None =
    record { version = refl; number = refl; environment = refl; agents = refl }
stands (Some false) None (Some environment) agents (Some boards) =
    record { version = refl; number = refl; environment = refl; agents = refl }
stands (Some false) (Some itno) None agents None =
    record { version = refl; number = refl; environment = refl; agents = refl }
stands (Some false) (Some itno) None agents (Some boards) =
    record { version = refl; number = refl; environment = refl; agents = refl }
stands (Some false) (Some itno) (Some environment) agents None =
    record { version = refl; number = refl; environment = refl; agents = refl }
stands (Some false) (Some itno) (Some environment) agents (Some boards) =
    record { version = refl; number = refl; environment = refl; agents = refl }
stands (Some true) None None agents None =
    record { version = refl; number = refl; environment = refl; agents = refl }
stands (Some true) None None agents (Some boards) =
    record { version = refl; number = refl; environment = refl; agents = refl }
stands (Some true) None (Some environment) agents None =
    record { version = refl; number = refl; environment = refl; agents = refl }
stands (Some true) None (Some environment) agents (Some boards) =
    record { version = refl; number = refl; environment = refl; agents = refl }
stands (Some true) (Some itno) None agents None =
    record { version = refl; number = refl; environment = refl; agents = refl }
stands (Some true) (Some itno) None agents (Some boards) =
    record { version = refl; number = refl; environment = refl; agents = refl }
stands (Some true) (Some itno) (Some environment) agents None =
    record { version = refl; number = refl; environment = refl; agents = refl }
stands (Some true) (Some itno) (Some environment) agents (Some boards) =
    record { version = refl; number = refl; environment = refl; agents = refl }

-- ---- the version

version_clear :
    (path : List ℕ) (states : Data) (format : Format)
    → format_named states ≡ Some format → version_faults path states ≡ []
version_clear path states format named =
    ap (λ (o : Option Format). if is_some o then [] else refused Shape (at_key path (codes "version"))) named

format_is : (states : Data) (format : Format) → format_named states ≡ Some format → format_of states ≡ format
format_is states format named = ap (λ (o : Option Format). unwrap_or o One) named

-- ---- the number

passes_itno : (itno : ℤ) → IsItno itno → is_itno itno ≡ true
passes_itno itno is = ap₂ (λ a b. a && b) is.least is.int

number_faultless :
    (path : List ℕ) (itno : Option ℤ)
    → IfSome itno IsItno
    → unless_missing (number_faults is_itno) path (or_null (option_map int_value itno)) ≡ []
number_faultless path None is = refl
number_faultless path (Some itno) is = number_clear is_itno path itno (passes_itno itno is)

number_is :
    (itno : Option ℤ) → IfSome itno IsItno → number_of (or_null (option_map int_value itno)) ≡ number_or itno
number_is None is = refl
number_is (Some itno) is = number_back itno is.int

-- ---- the environment

environment_faultless :
    (two : Bool) (names : List (List ℕ)) (path : List ℕ) (constants : Option (List ℤ))
    → AllDiffer names
    → IfSome constants (AreConstants names)
    → unless_missing (environment_faults (format_by two) names) path (or_null (environment_data two names constants))
    ≡ []
environment_faultless two names path None apart are = refl
environment_faultless false names path (Some values) apart are =
    constants_clear names path values apart (all_each IsInt values are.ints)
environment_faultless true names path (Some values) apart are =
    row_clear (length names) path values are.count (all_each IsInt values are.ints)

all_zero : (names : List (List ℕ)) → map (λ name. number_of (part name null)) names ≡ replicate (length names) (pos 0)
all_zero [] = refl
all_zero (name ∷ names) = ap (λ l. pos 0 ∷ l) (all_zero names)

constants_is :
    (two : Bool) (names : List (List ℕ)) (constants : Option (List ℤ))
    → AllDiffer names
    → IfSome constants (AreConstants names)
    → constants_of (format_by two) names (or_null (environment_data two names constants))
    ≡ values_or (length names) constants
constants_is false names None apart are = all_zero names
constants_is true names None apart are = refl
constants_is false names (Some values) apart are =
    constants_back names values apart are.count (all_each IsInt values are.ints)
constants_is true names (Some values) apart are = row_back (length names) values (all_each IsInt values are.ints)

-- ---- the agents

agents_faultless :
    (two : Bool) (model : Model) (path : List ℕ) (tree : Json) (dealt : List (List (List ℤ)))
    → HasDifferentNames model
    → (are : AreAgents two model.agents tree dealt)
    → unless_missing (list_faults (agents_faults (format_by two) model.agents)) path
    (agents_value two model.agents tree dealt are)
    ≡ []
agents_faultless false model path tree dealt apart are =
    let types = model.agents in
    listed_clear_all types path are.all (types_numbered types apart.types) apart.memories
    (all_each (IsOfTypes types) are.all are.known)
agents_faultless true model path tree dealt apart are =
    let types = model.agents in
    bags_clear types path dealt apart.types (types_numbered types apart.types) are.wide

agents_is :
    (two : Bool) (model : Model) (tree : Json) (dealt : List (List (List ℤ)))
    → HasDifferentNames model
    → (are : AreAgents two model.agents tree dealt)
    → agents_of (format_by two) model.agents (members_of (agents_value two model.agents tree dealt are))
    ≡ map ascending dealt
agents_is false model tree dealt apart are =
    let types = model.agents in
    sym
    (bags_same types are.all dealt (types_numbered types apart.types) apart.memories
    (all_each (IsOfTypes types) are.all are.known) are.dealt_are)
agents_is true model tree dealt apart are =
    let types = model.agents in
    sym (bags_held types dealt (types_numbered types apart.types) are.wide)

-- ---- the whole

four_clear :
    (one two three four : List PopFault)
    → one ≡ [] → two ≡ [] → three ≡ [] → four ≡ [] → one ++ (two ++ (three ++ four)) ≡ []
four_clear one two three four a b c d =
    append-nils one (two ++ (three ++ four)) a (append-nils two (three ++ four) b (append-nils three four c d))

-- that so many iterations may follow
abbrev pub LeavesSome : ℕ → ℤ → Type 0
LeavesSome turns itno = int_le (itno +ℤ pos turns) (pos 2147483647) ≡ true

-- what stands in the states that the contents are
states_stand :
    (model : Model) (contents : Contents) (itno : Option ℤ) (constants : Option (List ℤ))
    (dealt : List (List (List ℤ)))
    → (are : AreContents model contents itno constants dealt)
    → Stands (is_two contents.version) itno
    (environment_data (is_two contents.version) model.constants constants)
    (agents_value (is_two contents.version) model.agents contents.agents dealt are.agents_are)
    (states_of model contents itno constants dealt are)
states_stand model contents itno constants dealt are =
    let two = is_two contents.version in
    stands contents.version itno (environment_data two model.constants constants)
    (agents_value two model.agents contents.agents dealt are.agents_are)
    (boards_value contents.boards are.boards_are)

states_clear :
    (model : Model) (turns : ℕ) (path : List ℕ) (contents : Contents) (itno : Option ℤ) (constants : Option (List ℤ))
    (dealt : List (List (List ℤ)))
    → HasDifferentNames model
    → (are : AreContents model contents itno constants dealt)
    → LeavesSome turns (number_or itno)
    → states_faults model turns path (states_of model contents itno constants dealt are) ≡ []
states_clear model turns path contents itno constants dealt apart are leaves =
    let names = model.constants in
    let types = model.agents in
    let two = is_two contents.version in
    let states = states_of model contents itno constants dealt are in
    let there = states_stand model contents itno constants dealt are in
    let at = at_key path (codes "itno") in
    let format = format_by two in
    four_clear (version_faults path states) (optional (number_faults is_itno) (codes "itno") path states)
    (world_faults (format_of states) model path states) (limit_faults turns path states)
    (version_clear path states format there.version)
    (ap (unless_missing (number_faults is_itno) at) there.number ∙ number_faultless at itno are.itno_is)
    (ap (λ (format : Format). world_faults format model path states) (format_is states format there.version)
    ∙ append-nils (optional (environment_faults format names) (codes "environment") path states)
    (optional (list_faults (agents_faults format types)) (codes "agents") path states)
    (ap (unless_missing (environment_faults format names) (at_key path (codes "environment"))) there.environment
    ∙ environment_faultless two names (at_key path (codes "environment")) constants apart.constants
    are.constants_are)
    (ap (unless_missing (list_faults (agents_faults format types)) (at_key path (codes "agents"))) there.agents
    ∙ agents_faultless two model (at_key path (codes "agents")) contents.agents dealt apart are.agents_are))
    (ap (λ value. if int_le (number_of value +ℤ pos turns) (pos 2147483647) then [] else refused IterationLimit at)
    there.number
    ∙ ap (λ z. if int_le (z +ℤ pos turns) (pos 2147483647) then [] else refused IterationLimit at)
    (number_is itno are.itno_is)
    ∙ ap (λ b. if b then [] else refused IterationLimit at) leaves)

-- the start with these parts
abbrev pub start_with : ℤ → List ℤ → List (List (List ℤ)) → Start
start_with itno constants agents = record { itno = itno; world = record { constants = constants; agents = agents } }

states_held :
    (model : Model) (contents : Contents) (itno : Option ℤ) (constants : Option (List ℤ))
    (dealt : List (List (List ℤ)))
    → HasDifferentNames model
    → (are : AreContents model contents itno constants dealt)
    → states_start model (states_of model contents itno constants dealt are)
    ≡ start_with (number_or itno) (values_or (length model.constants) constants) (map ascending dealt)
states_held model contents itno constants dealt apart are =
    let names = model.constants in
    let two = is_two contents.version in
    let format = format_by two in
    let states = states_of model contents itno constants dealt are in
    let there = states_stand model contents itno constants dealt are in
    ap
    (λ (format : Format). start_with (itno_of states) (world_of format model states).constants
    (world_of format model states).agents)
    (format_is states format there.version)
    ∙ ap (λ z. start_with z (world_of format model states).constants (world_of format model states).agents)
    (ap number_of there.number ∙ number_is itno are.itno_is)
    ∙ ap (λ (c : List ℤ). start_with (number_or itno) c (world_of format model states).agents)
    (ap (constants_of format names) there.environment
    ∙ constants_is two names constants apart.constants are.constants_are)
    ∙ ap (start_with (number_or itno) (values_or (length names) constants))
    (ap (λ value. agents_of format model.agents (members_of value)) there.agents
    ∙ agents_is two model contents.agents dealt apart are.agents_are)

-- a population that was read holds the start that is made of its parts
pub population_held :
    (model : Model) (turns : ℕ) (bytes : List ℕ) (itno : ℤ) (constants : List ℤ) (agents : List (List (List ℤ)))
    → name_faults model ≡ []
    → IsPopulation model itno constants agents bytes
    → LeavesSome turns itno
    → HoldsStart model turns bytes (start_with itno constants agents)
population_held model turns bytes itno constants agents named is leaves =
    let whole = is.whole in
    let contents = whole.contents in
    let are = whole.are in
    let read_itno = is.itno_read in
    let read_constants = is.constants_read in
    let apart = different_names model named in
    let states = states_of model contents read_itno read_constants is.dealt are in
    let leaves_read : LeavesSome turns (number_or read_itno) =
    ap (λ z. int_le (z +ℤ pos turns) (pos 2147483647)) (sym is.itno_same) ∙ leaves in
    record {
      value = population_value states;
      is_read =
          ap (λ b. if b then read bytes else None) is.utf8
          ∙ population_read bytes model contents read_itno read_constants is.dealt whole.is_read are;
      faultless =
          states_clear model turns (at_key root (codes "states")) contents read_itno read_constants is.dealt apart are
          leaves_read;
      held =
          ap (λ z. start_with z constants agents) is.itno_same
          ∙ ap (λ (c : List ℤ). start_with (number_or read_itno) c agents) is.constants_same
          ∙ ap (start_with (number_or read_itno) (values_or (length model.constants) read_constants)) is.agents_same
          ∙ sym (states_held model contents read_itno read_constants is.dealt apart are);
    }
