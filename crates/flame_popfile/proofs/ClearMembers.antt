-- The members for the agents have no fault.
use Rattle.std.proofs.Common.{◌≡◌, ℕ, ◌+◌, List, [], ◌∷◌, ◌++◌, map, take, length, true, false, Option, Some, codes, refl, sym, ap, ap₂, ◌∙◌, append_assoc, length-append, take_at}
use Rattle.std.specs.Prelude.{ℤ, ◌||◌, is_some, option_and_then, if◌then◌else◌}
use Rattle.std.specs.List.{AllZip}
use Rattle.std.specs.Option.{option_map_or}
use Rattle.std.specs.Str.{bytes_eq}
use Rattle.std.proofs.lemmas.Bool.{or_parts}
use Rattle.std.proofs.lemmas.List.Elements.{filter_map-append}
use Rattle.flame_rows.proofs.Lists.{append-nils}
use Rattle.serde_json.specs.Data.{Data}
use Rattle.flame_spec.specs.declared.models.AgentType.{AgentType}
use Rattle.flame_spec.specs.Columns.{width}
use Rattle.flame_spec.specs.KnownNames.{is_among}
use Rattle.flame_spec.specs.Lists.{each_from}
use Rattle.flame_spec.specs.Paths.{at_key, at_number}
use Rattle.flame_xmml.specs.ValueParts.{is_object}
use Rattle.flame_meaning.specs.RangeLaws.{Each}
use Rattle.flame_world.specs.WorldLaws.{IsRowOf, IsBagOf}
use Rattle.flame_popfile.specs.declared.formats.Format.{Format}
use Rattle.flame_popfile.specs.declared.formats.Format.TheVariants.{One, Two}
use Rattle.flame_popfile.specs.declared.faults.PopKind.TheVariants.{Shape, UnknownAgent, Duplicate}
use Rattle.flame_popfile.specs.PopulationParts.{name_in, refused, each_member, list_faults, ints_faults}
use Rattle.flame_popfile.specs.PopulationFaults.{type_named, type_in, content_faults, name_faults, member_name_faults, agent_parts, agent_faults, taken_names, agents_faults}
use Rattle.flame_world.proofs.Eachs.{each_append, each_map}
use Rattle.flame_popfile.proofs.PutMembers.{IsNoneOf, AllDiffer}
use Rattle.flame_popfile.proofs.NameSearches.{AreNumbered, names_apart}
use Rattle.flame_popfile.proofs.PopulationValues.{list_of, row_value, agent_value, bag_value, agent_values}
use Rattle.flame_popfile.proofs.DifferentNames.{HasDifferentVariables}
use Rattle.flame_popfile.proofs.ReadRows.{IsClear, items_back, each_clear, row_clear, memory_clear}

-- the bag of a type
abbrev pub IsBagFor : AgentType → List (List ℤ) → Type 0
IsBagFor type bag = IsBagOf (width type.memory) bag

-- a member of a known type whose name no earlier member has
agent_clear :
    (format : Format) (all : List AgentType) (earlier : List (List ℕ)) (path : List ℕ) (value : Data) (number : ℕ)
    (type : AgentType)
    → is_object value ≡ true
    → name_in value ≡ Some type.name
    → type_named all type.name ≡ Some (number, type)
    → is_among type.name earlier ≡ false
    → content_faults format type path value ≡ []
    → agent_faults format all earlier path value ≡ []
agent_clear format all earlier path value number type is named found new clear =
    let at = at_key path (codes "name") in
    ap (λ b. if b then agent_parts format all earlier path value else refused Shape path) is
    ∙ append-nils (member_name_faults all earlier path value)
    (option_map_or (λ found. content_faults format found.1 path value) (type_in all value) [])
    (ap (λ o. option_map_or (name_faults all earlier at) o (refused Shape at)) named
    ∙ ap₂
    (λ (o : Option (ℕ × AgentType)) b. if is_some o then (if b then refused Duplicate at else [])
    else refused UnknownAgent at)
    found new)
    (ap
    (λ o. option_map_or (λ (found : ℕ × AgentType). content_faults format found.1 path value)
    (option_and_then (type_named all) o) [])
    named
    ∙ ap (λ o. option_map_or (λ (found : ℕ × AgentType). content_faults format found.1 path value) o []) found
    ∙ clear)

-- a member for an agent
one_clear :
    (all : List AgentType) (path : List ℕ) (number : ℕ) (type : AgentType) (row : List ℤ)
    → type_named all type.name ≡ Some (number, type)
    → HasDifferentVariables type
    → IsRowOf (width type.memory) row
    → agent_faults One all [] path (agent_value type row) ≡ []
one_clear all path number type row found apart is =
    agent_clear One all [] path (agent_value type row) number type refl refl found refl
    (memory_clear type.memory (at_key path (codes "memory")) row apart is.0 is.1)

-- a member for a bag
two_clear :
    (all : List AgentType) (earlier : List (List ℕ)) (path : List ℕ) (number : ℕ) (type : AgentType)
    (bag : List (List ℤ))
    → type_named all type.name ≡ Some (number, type)
    → is_among type.name earlier ≡ false
    → Each (IsRowOf (width type.memory)) bag
    → agent_faults Two all earlier path (bag_value type.name bag) ≡ []
two_clear all earlier path number type bag found new rows =
    let wide = width type.memory in
    let at = at_key path (codes "rows") in
    agent_clear Two all earlier path (bag_value type.name bag) number type refl refl found new
    (ap (each_member (ints_faults wide) at) (items_back (map row_value bag))
    ∙ each_clear (IsClear (ints_faults wide)) (λ n value. ints_faults wide (at_number at n) value) 0 (map row_value bag)
    (λ n value clear. clear (at_number at n))
    (each_map (IsRowOf wide) (IsClear (ints_faults wide)) row_value
    (λ row is path. row_clear wide path row is.0 is.1) bag rows))

-- a member of version 1 without a fault at whatever path
abbrev IsOne : List AgentType → Data → Type 0
IsOne all value = (path : List ℕ) → agent_faults One all [] path value ≡ []

ones_clear :
    (all : List AgentType) (i : ℕ) (types : List AgentType) (bags : List (List (List ℤ)))
    → AreNumbered all i types
    → Each HasDifferentVariables types
    → AllZip IsBagFor types bags
    → Each (IsOne all) (agent_values One types bags)
ones_clear all i [] [] found apart are = tt
ones_clear all i [] (bag ∷ bags) found apart are = absurd are
ones_clear all i (type ∷ types) [] found apart are = absurd are
ones_clear all i (type ∷ types) (bag ∷ bags) found apart are =
    each_append (IsOne all) (map (agent_value type) bag) (agent_values One types bags)
    (each_map (IsRowOf (width type.memory)) (IsOne all) (agent_value type)
    (λ row is path. one_clear all path i type row found.0 apart.0 is) bag are.0.1)
    (ones_clear all (i + 1) types bags found.1 apart.1 are.1)

among_more :
    (name : List ℕ) (names : List (List ℕ)) (other : List ℕ)
    → is_among name names ≡ false → bytes_eq name other ≡ false → is_among name (names ++ other ∷ []) ≡ false
among_more name [] other h e = ap (λ b. b || false) e
among_more name (first ∷ names) other h e =
    let both = or_parts (bytes_eq name first) (is_among name names) h in
    ap₂ (λ a b. a || b) both.0 (among_more name names other both.1 e)

-- no earlier member has the name of the type
abbrev pub IsNewAfter : List Data → AgentType → Type 0
IsNewAfter before type = is_among type.name (taken_names Two before) ≡ false

pub IsNewAfter-push :
    (before : List Data) (name : List ℕ) (bag : List (List ℤ)) (types : List AgentType)
    → IsNoneOf name (map (λ (type : AgentType). type.name) types)
    → Each (IsNewAfter before) types
    → Each (IsNewAfter (before ++ bag_value name bag ∷ [])) types
IsNewAfter-push before name bag [] apart new = tt
IsNewAfter-push before name bag (type ∷ types) apart new = (
  ap (is_among type.name) (filter_map-append name_in before (bag_value name bag ∷ []))
      ∙ among_more type.name (taken_names Two before) name new.0 (names_apart type.name name (λ e. apart.0 (sym e))),
  IsNewAfter-push before name bag types apart.1 new.1,
)

twos_clear :
    (all : List AgentType) (path : List ℕ) (values before : List Data) (n i : ℕ) (types : List AgentType)
    (bags : List (List (List ℤ)))
    → values ≡ before ++ agent_values Two types bags
    → length before ≡ n
    → Each (IsNewAfter before) types
    → AllDiffer (map (λ (type : AgentType). type.name) types)
    → AreNumbered all i types
    → AllZip IsBagFor types bags
    → each_from
    (λ number value. agent_faults Two all (taken_names Two (take number values)) (at_number path number) value)
    n
    (agent_values Two types bags)
    ≡ []
twos_clear all path values before n i [] [] split long new apart found are = refl
twos_clear all path values before n i [] (bag ∷ bags) split long new apart found are = absurd are
twos_clear all path values before n i (type ∷ types) [] split long new apart found are = absurd are
twos_clear all path values before n i (type ∷ types) (bag ∷ bags) split long new apart found are =
    let value = bag_value type.name bag in
    let rest = agent_values Two types bags in
    let earlier : take n values ≡ before = ap (take n) split ∙ take_at before (value ∷ rest) n long in
    append-nils (agent_faults Two all (taken_names Two (take n values)) (at_number path n) value) _
    (ap (λ l. agent_faults Two all (taken_names Two l) (at_number path n) value) earlier
    ∙ two_clear all (taken_names Two before) (at_number path n) i type bag found.0 new.0 are.0.1)
    (twos_clear all path values (before ++ value ∷ []) (n + 1) (i + 1) types bags
    (split ∙ sym (append_assoc before (value ∷ []) rest))
    (length-append before (value ∷ []) ∙ ap (λ k. k + 1) long)
    (IsNewAfter-push before type.name bag types apart.0 new.1)
    apart.1 found.1 are.1)

pub IsNewAfter-nil : (types : List AgentType) → Each (IsNewAfter []) types
IsNewAfter-nil [] = tt
IsNewAfter-nil (type ∷ types) = (refl, IsNewAfter-nil types)

-- the members for all agents have no fault
pub agents_clear :
    (format : Format) (types : List AgentType) (bags : List (List (List ℤ))) (path : List ℕ)
    → AllDiffer (map (λ (type : AgentType). type.name) types)
    → AreNumbered types 0 types
    → Each HasDifferentVariables types
    → AllZip IsBagFor types bags
    → list_faults (agents_faults format types) path (list_of (agent_values format types bags)) ≡ []
agents_clear One types bags path apart found memories are =
    ap (agents_faults One types path) (items_back (agent_values One types bags))
    ∙ each_clear (IsOne types) (λ number value. agent_faults One types [] (at_number path number) value) 0
    (agent_values One types bags)
    (λ n value clear. clear (at_number path n))
    (ones_clear types 0 types bags found memories are)
agents_clear Two types bags path apart found memories are =
    let values = agent_values Two types bags in
    ap (agents_faults Two types path) (items_back values)
    ∙ twos_clear types path values [] 0 0 types bags refl refl (IsNewAfter-nil types) apart found are
