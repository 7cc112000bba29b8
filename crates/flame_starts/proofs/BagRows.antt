-- Agents that were read by their rows have no fault, and are the agents that the value holds.
use Rattle.std.proofs.Common.{◌≡◌, ℕ, zero, suc, ◌+◌, ◌<◌, List, [], ◌∷◌, ◌++◌, map, take, length, false, Option, Some, codes, refl, sym, ap, ap₂, subst, ◌∙◌, append_assoc, append-nil, length-append, take_at, arith}
use Rattle.std.specs.Prelude.{ℤ, ◌==◌, is_some, slice_get, slice_index_or, if◌then◌else◌}
use Rattle.std.specs.List.{AllZip, flat_map}
use Rattle.std.specs.Option.{option_map_or}
use Rattle.std.proofs.lemmas.Bool.{eq-eqb, ne_eqb}
use Rattle.flame_rows.specs.Bags.{ascending}
use Rattle.flame_rows.proofs.Lists.{append-nils}
use Rattle.serde_json.specs.Data.{Data}
use Rattle.flame_spec.specs.declared.models.AgentType.{AgentType}
use Rattle.flame_spec.specs.declared.models.Variable.{Variable}
use Rattle.flame_spec.specs.Columns.{width}
use Rattle.flame_spec.specs.KnownNames.{is_among}
use Rattle.flame_spec.specs.Lists.{each_from}
use Rattle.flame_spec.specs.Paths.{at_key, at_number}
use Rattle.flame_meaning.specs.RangeLaws.{IsInt, Each}
use Rattle.flame_world.specs.WorldLaws.{IsRowOf}
use Rattle.flame_world.proofs.Eachs.{all_each, each_also, each_map}
use Rattle.flame_popfile.specs.declared.formats.Format.TheVariants.{Two}
use Rattle.flame_popfile.specs.declared.faults.PopKind.TheVariants.{UnknownAgent, Duplicate}
use Rattle.flame_popfile.specs.PopulationParts.{refused, each_member, list_faults, ints_faults, members_of, numbers_of}
use Rattle.flame_popfile.specs.PopulationFaults.{type_named, content_faults, member_name_faults, agent_faults, taken_names, agents_faults}
use Rattle.flame_popfile.specs.PopulationAgents.{agents_in, is_of_type, agents_of}
use Rattle.flame_popfile.specs.DealtAgents.{AreDealt}
use Rattle.flame_popfile.proofs.PutMembers.{AllDiffer}
use Rattle.flame_popfile.proofs.NameSearches.{AreNumbered}
use Rattle.flame_popfile.proofs.PopulationValues.{list_of, row_value, bag_value}
use Rattle.flame_popfile.proofs.ReadRows.{IsClear, items_back, each_clear, row_clear}
use Rattle.flame_popfile.proofs.Dealing.{bags_dealt}
use Rattle.flame_popfile.proofs.ReadAgents.{numbers_of-row_value}
use Rattle.flame_popfile.proofs.ClearMembers.{IsNewAfter, IsNewAfter-push, IsNewAfter-nil}
use Rattle.flame_tokens.specs.MemberTrees.{IsWide}
use Rattle.flame_tokens.specs.BagTrees.{AreWide}
use Rattle.flame_starts.proofs.TreeValues.{bag_values}

-- rows of a type
abbrev AreRowsOf : AgentType → List (List ℤ) → Type 0
AreRowsOf type rows = Each (IsRowOf (width type.memory)) rows

rows_wide :
    (types : List AgentType) (dealt : List (List (List ℤ))) → AllZip AreWide types dealt → AllZip AreRowsOf types dealt
rows_wide [] [] are = tt
rows_wide [] (rows ∷ dealt) are = absurd are
rows_wide (type ∷ types) [] are = absurd are
rows_wide (type ∷ types) (rows ∷ dealt) are =
    let wide = width type.memory in (
      each_also (IsWide wide) (IsRowOf wide) (λ row is. (is.count, all_each IsInt row is.ints)) rows
          (all_each (IsWide wide) rows are.0),
      rows_wide types dealt are.1,
    )

-- ---- no fault

-- a member of a known type whose name no earlier member has
bag_clear :
    (all : List AgentType) (earlier : List (List ℕ)) (path : List ℕ) (number : ℕ) (type : AgentType)
    (rows : List (List ℤ))
    → type_named all type.name ≡ Some (number, type)
    → is_among type.name earlier ≡ false
    → AreRowsOf type rows
    → agent_faults Two all earlier path (bag_value type.name rows) ≡ []
bag_clear all earlier path number type rows found new are =
    let wide = width type.memory in
    let at = at_key path (codes "rows") in
    let named = at_key path (codes "name") in
    let value = bag_value type.name rows in
    append-nils (member_name_faults all earlier path value)
    (option_map_or (λ (found : ℕ × AgentType). content_faults Two found.1 path value) (type_named all type.name) [])
    (ap₂
    (λ (o : Option (ℕ × AgentType)) b. if is_some o then (if b then refused Duplicate named else [])
    else refused UnknownAgent named)
    found new)
    (ap (λ (o : Option (ℕ × AgentType)). option_map_or (λ (found : ℕ × AgentType). content_faults Two found.1 path value) o [])
    found
    ∙ ap (each_member (ints_faults wide) at) (items_back (map row_value rows))
    ∙ each_clear (IsClear (ints_faults wide)) (λ n value. ints_faults wide (at_number at n) value) 0 (map row_value rows)
    (λ n value clear. clear (at_number at n))
    (each_map (IsRowOf wide) (IsClear (ints_faults wide)) row_value
    (λ row is path. row_clear wide path row is.0 is.1) rows are))

each_bag_clear :
    (all : List AgentType) (path : List ℕ) (values before : List Data) (n i : ℕ) (types : List AgentType)
    (dealt : List (List (List ℤ)))
    → values ≡ before ++ bag_values types dealt
    → length before ≡ n
    → Each (IsNewAfter before) types
    → AllDiffer (map (λ (type : AgentType). type.name) types)
    → AreNumbered all i types
    → AllZip AreRowsOf types dealt
    → each_from
    (λ number value. agent_faults Two all (taken_names Two (take number values)) (at_number path number) value)
    n
    (bag_values types dealt)
    ≡ []
each_bag_clear all path values before n i [] dealt split long new apart found are = refl
each_bag_clear all path values before n i (type ∷ types) [] split long new apart found are = refl
each_bag_clear all path values before n i (type ∷ types) (rows ∷ dealt) split long new apart found are =
    let value = bag_value type.name rows in
    let rest = bag_values types dealt in
    let earlier : take n values ≡ before = ap (take n) split ∙ take_at before (value ∷ rest) n long in
    append-nils (agent_faults Two all (taken_names Two (take n values)) (at_number path n) value) _
    (ap (λ l. agent_faults Two all (taken_names Two l) (at_number path n) value) earlier
    ∙ bag_clear all (taken_names Two before) (at_number path n) i type rows found.0 new.0 are.0)
    (each_bag_clear all path values (before ++ value ∷ []) (n + 1) (i + 1) types dealt
    (split ∙ sym (append_assoc before (value ∷ []) rest))
    (length-append before (value ∷ []) ∙ ap (λ k. k + 1) long)
    (IsNewAfter-push before type.name rows types apart.0 new.1)
    apart.1 found.1 are.1)

-- the list of them has no fault
pub bags_clear :
    (types : List AgentType) (path : List ℕ) (dealt : List (List (List ℤ)))
    → AllDiffer (map (λ (type : AgentType). type.name) types)
    → AreNumbered types 0 types
    → AllZip AreWide types dealt
    → list_faults (agents_faults Two types) path (list_of (bag_values types dealt)) ≡ []
bags_clear types path dealt apart found are =
    let values = bag_values types dealt in
    ap (agents_faults Two types path) (items_back values)
    ∙ each_bag_clear types path values [] 0 0 types dealt refl refl (IsNewAfter-nil types) apart found
    (rows_wide types dealt are)

-- ---- the agents

-- what a member gives to the type of this number
abbrev given : List AgentType → ℕ → List Variable → Data → List (List ℤ)
given all number variables value = if is_of_type all number value then agents_in Two variables value else []

-- a member gives its rows to its own type
gives_own :
    (all : List AgentType) (number : ℕ) (type : AgentType) (rows : List (List ℤ))
    → type_named all type.name ≡ Some (number, type)
    → AreRowsOf type rows
    → given all number type.memory (bag_value type.name rows) ≡ rows
gives_own all number type rows found are =
    let wide = width type.memory in
    let value = bag_value type.name rows in
    ap
    (λ (o : Option (ℕ × AgentType)). if option_map_or (λ (found : ℕ × AgentType). found.0 == number) o false
    then agents_in Two type.memory value else [])
    found
    ∙ ap (λ b. if b then agents_in Two type.memory value else []) (eq-eqb number number refl)
    ∙ ap (map (numbers_of wide)) (items_back (map row_value rows))
    ∙ numbers_of-row_value wide rows are

-- and nothing to others
gives_no_other :
    (all : List AgentType) (number other : ℕ) (type : AgentType) (variables : List Variable) (rows : List (List ℤ))
    → type_named all type.name ≡ Some (number, type)
    → (number ≡ other → ⊥)
    → given all other variables (bag_value type.name rows) ≡ []
gives_no_other all number other type variables rows found apart =
    let value = bag_value type.name rows in
    ap
    (λ (o : Option (ℕ × AgentType)). if option_map_or (λ (found : ℕ × AgentType). found.0 == other) o false
    then agents_in Two variables value else [])
    found
    ∙ ap (λ b. if b then agents_in Two variables value else []) (ne_eqb number other apart)

-- later members give nothing to an earlier type
none_later :
    (all : List AgentType) (number i : ℕ) (variables : List Variable) (types : List AgentType)
    (dealt : List (List (List ℤ)))
    → number < i → AreNumbered all i types → flat_map (given all number variables) (bag_values types dealt) ≡ []
none_later all number i variables [] dealt below found = refl
none_later all number i variables (type ∷ types) [] below found = refl
none_later all number i variables (type ∷ types) (rows ∷ dealt) below found =
    append-nils (given all number variables (bag_value type.name rows)) _
    (gives_no_other all i number type variables rows found.0 (λ e. omega arith))
    (none_later all number (i + 1) variables types dealt (omega arith) found.1)

-- each type is given its rows
rows_given :
    (all : List AgentType) (number i k : ℕ) (types : List AgentType) (dealt : List (List (List ℤ))) (type : AgentType)
    → number ≡ i + k
    → AreNumbered all i types
    → AllZip AreRowsOf types dealt
    → slice_get types k ≡ Some type
    → slice_index_or dealt k [] ≡ flat_map (given all number type.memory) (bag_values types dealt)
rows_given all number i k [] dealt type is found are there = absurd (cc)
rows_given all number i k (first ∷ types) [] type is found are there = absurd are
rows_given all number i zero (first ∷ types) (rows ∷ dealt) type is found are there =
    let same : first ≡ type = cc in
    let plain : i ≡ number = omega (arith, is) in
    subst
    (λ (t : AgentType). rows
    ≡ given all number t.memory (bag_value first.name rows)
    ++ flat_map (given all number t.memory) (bag_values types dealt))
    same
    (sym
    (ap₂ (λ a b. a ++ b)
    (gives_own all number first rows (found.0 ∙ ap (λ n. Some (n, first)) plain) are.0)
    (none_later all number (i + 1) first.memory types dealt (omega (arith, is)) found.1)
    ∙ append-nil rows))
rows_given all number i (suc k) (first ∷ types) (rows ∷ dealt) type is found are there =
    rows_given all number (i + 1) k types dealt type (omega (arith, is)) found.1 are.1 there
    ∙ sym
    (ap (λ a. a ++ flat_map (given all number type.memory) (bag_values types dealt))
    (gives_no_other all i number first type.memory rows found.0 (λ e. omega (arith, is, e))))

as_many : (types : List AgentType) (dealt : List (List (List ℤ))) → AllZip AreWide types dealt → length dealt ≡ length types
as_many [] [] are = refl
as_many [] (rows ∷ dealt) are = absurd are
as_many (type ∷ types) [] are = absurd are
as_many (type ∷ types) (rows ∷ dealt) are = ap suc (as_many types dealt are.1)

-- the bags of the rows
pub bags_held :
    (types : List AgentType) (dealt : List (List (List ℤ)))
    → AreNumbered types 0 types
    → AllZip AreWide types dealt
    → map ascending dealt ≡ agents_of Two types (members_of (list_of (bag_values types dealt)))
bags_held types dealt numbered are =
    let values = bag_values types dealt in
    let is : AreDealt Two types values dealt =
    record {
      count = as_many types dealt are;
      agents = λ number type there.
          let plain : number ≡ 0 + number = omega arith in
          rows_given types number 0 number types dealt type plain numbered (rows_wide types dealt are) there;
    } in
    bags_dealt Two types values dealt is ∙ sym (ap (agents_of Two types) (items_back values))
