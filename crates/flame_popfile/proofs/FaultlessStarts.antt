-- A population without faults holds a start of the model.
use Rattle.std.proofs.Common.{◌≡◌, ℕ, suc, ◌+◌, List, [], ◌∷◌, length, take, Bool, true, false, cond, Option, Some, None, Result, Ok, Err, refl, sym, ap, ◌∙◌, subst, arith, add-zero, codes}
use Rattle.std.specs.Prelude.{ℤ, pos, IfOk, ◌+ℤ◌, ◌≤ℤ◌, int_le, ◌==◌, slice_get, unwrap_or, if◌then◌else◌}
use Rattle.std.specs.List.{AllZip}
use Rattle.std.specs.Option.{option_map_or}
use Rattle.std.proofs.lemmas.Bool.{eqb-true}
use Rattle.std.proofs.lemmas.Int.{ints}
use Rattle.std.proofs.lemmas.List.{length-map}
use Rattle.serde_json.specs.Data.{Data}
use Rattle.flame_rows.specs.declared.fails.Fail.{Fail}
use Rattle.flame_rows.specs.Bags.{ascending}
use Rattle.flame_rows.specs.Order.{row_order}
use Rattle.flame_rows.proofs.BagLaws.{ascending_is_a_bag}
use Rattle.flame_rows.proofs.Lists.{append-is_nil_left, append-is_nil_right}
use Rattle.flame_ops.specs.Integers.{is_int}
use Rattle.flame_spec.specs.declared.models.Model.{Model}
use Rattle.flame_spec.specs.declared.models.AgentType.{AgentType}
use Rattle.flame_spec.specs.declared.outcomes.Source.{Source}
use Rattle.flame_spec.specs.Accepted.{IsAccepted}
use Rattle.flame_spec.specs.Columns.{width}
use Rattle.flame_spec.specs.Lists.{each_from}
use Rattle.flame_spec.specs.Paths.{root, at_key, at_number}
use Rattle.flame_spec.specs.Steps.{◌>>=◌}
use Rattle.flame_meaning.specs.RangeLaws.{AreInts, Each}
use Rattle.flame_world.specs.declared.worlds.World.{World}
use Rattle.flame_world.specs.WorldFits.{AreWide, FitsModel}
use Rattle.flame_world.specs.WorldLaws.{IsRowOf, IsBagOf, IsWorldOf}
use Rattle.flame_world.proofs.Eachs.{mapped, each_also, each_flat_map, zip_also}
use Rattle.flame_xmml.specs.ValueParts.{part, is_object, members}
use Rattle.flame_xmml.specs.Wants.{whole_of, held}
use Rattle.flame_popfile.specs.declared.faults.PopFault.{PopFault}
use Rattle.flame_popfile.specs.declared.faults.PopKind.TheVariants.{Shape, OutOfInt, IterationLimit}
use Rattle.flame_popfile.specs.declared.formats.Format.{Format}
use Rattle.flame_popfile.specs.declared.formats.Format.TheVariants.{One, Two}
use Rattle.flame_popfile.specs.declared.starts.Start.{Start}
use Rattle.flame_spec.specs.FirstFaults.{Reads}
use Rattle.flame_popfile.specs.PopulationParts.{number_of, members_of, refused, optional, object_faults, list_faults, number_faults, is_itno}
use Rattle.flame_popfile.specs.PopulationFaults.{environment_faults, type_in, content_faults, member_name_faults, agent_parts, agent_faults}
use Rattle.flame_popfile.specs.PopulationFaults.{taken_names, agents_faults, world_faults, version_faults, format_of, itno_of, limit_faults}
use Rattle.flame_popfile.specs.PopulationFaults.{states_faults, population_faults}
use Rattle.flame_popfile.specs.PopulationAgents.{constants_of, agents_in, is_of_type, agents_of_type, agents_of}
use Rattle.flame_popfile.specs.PopulationStarts.{world_of, states_start, start_of}
use Rattle.flame_popfile.specs.StartLaws.{LeavesRoom, IsStartOf, ReadPopulationsFit}
use Rattle.flame_popfile.proofs.Dealing.{type_stands, parts_found}
use Rattle.flame_popfile.proofs.FaultlessParts.{each_none, passes_none, where_missing, number_int, numbers_ints, numbers_counted, zeros_counted}
use Rattle.flame_popfile.proofs.FirstVariables.{AreFirst, memories_first}
use Rattle.flame_popfile.proofs.FaultlessMemories.{content_rows}
use Rattle.flame_meaning.proofs.Eachs.{each_sorted}

-- ---- agents

-- the agents of each type, type by type
zipped :
    {X Y : Type 0} (R : X → Y → Type 0) (g : ℕ → X → Y) (i : ℕ) (xs : List X)
    → ((n : ℕ) (x : X) → slice_get xs n ≡ Some x → R x (g (i + n) x))
    → AllZip R xs (each_from (λ n x. g n x ∷ []) i xs)
zipped R g i [] all = tt
zipped R g i (x ∷ xs) all = (
  subst (λ n. R x (g n x)) (add-zero i) (all 0 x refl),
  zipped R g (i + 1) xs
      (λ n y at.
      let later : i + suc n ≡ i + 1 + n = omega arith in
      subst (λ m. R y (g m y)) later (all (suc n) y at)),
)

-- the members of the agents, each without faults in some place
record IsFaultless (format : Format) (types : List AgentType) (value : Data) : Type 0 where
  earlier : List (List ℕ)
  path : List ℕ
  none : agent_faults format types earlier path value ≡ []

-- the agents of a member that is of this type
rows_of_member :
    (format : Format) (types : List AgentType) (value : Data) (number : ℕ) (type : AgentType)
    → AreFirst type.memory
    → slice_get types number ≡ Some type
    → IsFaultless format types value
    → Each (IsRowOf (width type.memory)) (if is_of_type types number value then agents_in format type.memory value else [])
rows_of_member format types value number type are at faultless = of (type_in types value) refl
  where
    path : List ℕ
    path = faultless.path

    none : agent_parts format types faultless.earlier path value ≡ []
    none = (passes_none (is_object value) (agent_parts format types faultless.earlier path value) Shape path faultless.none).1

    of :
        (o : Option (ℕ × AgentType))
        → type_in types value ≡ o
        → Each (IsRowOf (width type.memory))
        (if option_map_or (λ (found : ℕ × AgentType). found.0 == number) o false then agents_in format type.memory value else [])
    of None is = tt
    of (Some found) is = by_number (found.0 == number) refl
      where
        content : content_faults format found.1 path value ≡ []
        content =
            append-is_nil_right (member_name_faults types faultless.earlier path value) _
            (sym (parts_found format types faultless.earlier path value found is) ∙ none)

        by_number :
            (b : Bool)
            → found.0 == number ≡ b
            → Each (IsRowOf (width type.memory)) (cond b (agents_in format type.memory value) [])
        by_number true same =
            let here : slice_get types found.0 ≡ Some found.1 = type_stands types value found.0 found.1 is in
            let there : slice_get types found.0 ≡ slice_get types number = ap (slice_get types) (eqb-true found.0 number same) in
            let type_same : found.1 ≡ type = cc in
            content_rows format type path value are
            (ap (λ (t : AgentType). content_faults format t path value) (sym type_same) ∙ content)
        by_number false other = tt

members_faultless :
    (format : Format) (types : List AgentType) (path : List ℕ) (values : List Data)
    → agents_faults format types path values ≡ []
    → Each (IsFaultless format types) values
members_faultless format types path values none =
    each_none (IsFaultless format types)
    (λ number value. agent_faults format types (taken_names format (take number values)) (at_number path number) value)
    (λ number value one. record { earlier = taken_names format (take number values); path = at_number path number; none = one })
    0 values none

agents_zip :
    (format : Format) (types : List AgentType) (values : List Data)
    → ((n : ℕ) (type : AgentType) → slice_get types n ≡ Some type → AreFirst type.memory)
    → Each (IsFaultless format types) values
    → AllZip (λ (type : AgentType) bag. IsBagOf (width type.memory) bag) types (agents_of format types values)
agents_zip format types values are faultless =
    zipped (λ (type : AgentType) bag. IsBagOf (width type.memory) bag)
    (λ number type. ascending (agents_of_type format types values number type.memory)) 0 types
    (λ n type at.
    let plain : n ≡ 0 + n = omega arith in
    let rows =
    each_flat_map (IsFaultless format types) (IsRowOf (width type.memory))
    (λ value. if is_of_type types n value then agents_in format type.memory value else [])
    (λ value one. rows_of_member format types value n type (are n type at) at one) values faultless in
    subst (λ m. IsBagOf (width type.memory) (ascending (agents_of_type format types values m type.memory))) plain (
      (ascending_is_a_bag (agents_of_type format types values n type.memory)).0,
      each_sorted (IsRowOf (width type.memory)) row_order (agents_of_type format types values n type.memory) rows,
    ))

-- the agents, which may be missing
agents_are :
    (format : Format) (types : List AgentType) (path : List ℕ) (states : Data)
    → ((n : ℕ) (type : AgentType) → slice_get types n ≡ Some type → AreFirst type.memory)
    → optional (list_faults (agents_faults format types)) (codes "agents") path states ≡ []
    → AllZip (λ (type : AgentType) bag. IsBagOf (width type.memory) bag) types
    (agents_of format types (members_of (part (codes "agents") states)))
agents_are format types path states are none =
    where_missing
    (λ value. AllZip (λ (type : AgentType) bag. IsBagOf (width type.memory) bag) types (agents_of format types (members_of value)))
    (list_faults (agents_faults format types)) (at_key path (codes "agents")) (part (codes "agents") states)
    (agents_zip format types [] are tt)
    (λ listed. of (part (codes "agents") states) (members (part (codes "agents") states)) refl listed)
    none
  where
    of :
        (value : Data) (o : Option (List Data))
        → members value ≡ o
        → option_map_or (agents_faults format types (at_key path (codes "agents"))) o (refused Shape (at_key path (codes "agents"))) ≡ []
        → AllZip (λ (type : AgentType) bag. IsBagOf (width type.memory) bag) types (agents_of format types (unwrap_or o []))
    of value None is listed = agents_zip format types [] are tt
    of value (Some values) is listed =
        agents_zip format types values are (members_faultless format types (at_key path (codes "agents")) values listed)

-- ---- constants

constants_ints : (format : Format) (names : List (List ℕ)) (environment : Data) → AreInts (constants_of format names environment)
constants_ints One names environment =
    mapped _ (λ name. number_of (part name environment)) (λ name. number_int (part name environment)) names
constants_ints Two names environment = numbers_ints (length names) environment

constants_counted :
    (format : Format) (names : List (List ℕ)) (path : List ℕ) (states : Data)
    → optional (environment_faults format names) (codes "environment") path states ≡ []
    → length (constants_of format names (part (codes "environment") states)) ≡ length names
constants_counted One names path states none =
    length-map names (λ name. number_of (part name (part (codes "environment") states)))
constants_counted Two names path states none =
    where_missing (λ value. length (constants_of Two names value) ≡ length names) (environment_faults Two names)
    (at_key path (codes "environment")) (part (codes "environment") states) (zeros_counted (length names))
    (numbers_counted (length names) (at_key path (codes "environment")) (part (codes "environment") states)) none

-- ---- worlds

world_is :
    (format : Format) (model : Model) (path : List ℕ) (states : Data)
    → ((n : ℕ) (type : AgentType) → slice_get model.agents n ≡ Some type → AreFirst type.memory)
    → world_faults format model path states ≡ []
    → IsWorldOf model (world_of format model states)
world_is format model path states are none = record {
  count = constants_counted format model.constants path states (append-is_nil_left _ _ none);
  ints = constants_ints format model.constants (part (codes "environment") states);
  agents =
      agents_are format model.agents path states are
      (append-is_nil_right (optional (environment_faults format model.constants) (codes "environment") path states) _ none);
}

-- a world of the model fits it
worlds_fit : (model : Model) (world : World) → IsWorldOf model world → FitsModel model world
worlds_fit model world is = record {
  constants = is.count;
  agents =
      zip_also (λ (type : AgentType) bag. IsBagOf (width type.memory) bag) (λ type agents. AreWide (width type.memory) agents)
      (λ type bag bagged. each_also (IsRowOf (width type.memory)) (λ row. length row ≡ width type.memory) (λ row one. one.0) bag bagged.1)
      model.agents world.agents is.agents;
}

-- ---- the number of the iteration

at_least_zero : (z : ℤ) → is_itno z ≡ true → pos 0 ≤ℤ z
at_least_zero z is = grind (arith, ints)

at_most : (z : ℤ) → int_le z (pos 2147483647) ≡ true → z ≤ℤ pos 2147483647
at_most z is = grind (arith, ints)

itno_is : (path : List ℕ) (value : Data) → number_faults is_itno path value ≡ [] → is_itno (number_of value) ≡ true
itno_is path value none = of (whole_of value) none
  where
    is_held : (z : ℤ) → is_itno z ≡ true → (b : Bool) → is_int z ≡ b → is_itno (unwrap_or (cond b (Some z) None) (pos 0)) ≡ true
    is_held z is true int = is
    is_held z is false int = refl

    of :
        (o : Option ℤ)
        → option_map_or (λ z. if is_itno z then [] else refused OutOfInt path) o (refused Shape path) ≡ []
        → is_itno (unwrap_or (o >>= held) (pos 0)) ≡ true
    of None none = cc
    of (Some z) none = is_held z (passes_none (is_itno z) [] OutOfInt path none).0 (is_int z) refl

leaves_room :
    (turns : ℕ) (path : List ℕ) (states : Data)
    → optional (number_faults is_itno) (codes "itno") path states ≡ []
    → limit_faults turns path states ≡ []
    → LeavesRoom turns (itno_of states)
leaves_room turns path states numbered limited = record {
  first =
      at_least_zero (itno_of states)
      (where_missing (λ value. is_itno (number_of value) ≡ true) (number_faults is_itno) (at_key path (codes "itno"))
      (part (codes "itno") states) refl (itno_is (at_key path (codes "itno")) (part (codes "itno") states)) numbered);
  last =
      at_most (itno_of states +ℤ pos turns)
      (passes_none (int_le (itno_of states +ℤ pos turns) (pos 2147483647)) [] IterationLimit (at_key path (codes "itno")) limited).0;
}

-- ---- starts

states_start_is :
    (model : Model) (turns : ℕ) (path : List ℕ) (states : Data)
    → ((n : ℕ) (type : AgentType) → slice_get model.agents n ≡ Some type → AreFirst type.memory)
    → states_faults model turns path states ≡ []
    → IsStartOf model turns (states_start model states)
states_start_is model turns path states are none =
    let behind = append-is_nil_right (version_faults path states) _ none in
    let later = append-is_nil_right (optional (number_faults is_itno) (codes "itno") path states) _ behind in
    let world = world_is (format_of states) model path states are (append-is_nil_left (world_faults (format_of states) model path states) _ later) in
    record {
      world = world;
      fits = worlds_fit model (world_of (format_of states) model states) world;
      number =
          leaves_room turns path states (append-is_nil_left (optional (number_faults is_itno) (codes "itno") path states) _ behind)
          (append-is_nil_right (world_faults (format_of states) model path states) _ later);
    }

pub read_populations_fit : ReadPopulationsFit
read_populations_fit model turns value named none =
    let place = at_key root (codes "states") in
    let states = part (codes "states") value in
    let inside =
    (passes_none (is_object value) (object_faults (states_faults model turns) place states) Shape root none).1 in
    states_start_is model turns place states (memories_first model named)
    (passes_none (is_object states) (states_faults model turns place states) Shape place inside).1

-- what is read for an accepted source
pub reads_start :
    (source got : Source) (turns : ℕ) (value : Data) (result : Result Start (Fail PopFault))
    → got ≡ source
    → IsAccepted source
    → Reads (population_faults got.model turns value) (start_of got.model value) result
    → IfOk result (IsStartOf source.model turns)
reads_start source got turns value result same accepted reads =
    of result
    (subst (λ (one : Source). Reads (population_faults one.model turns value) (start_of one.model value) result) same reads)
  where
    of :
        (one : Result Start (Fail PopFault))
        → Reads (population_faults source.model turns value) (start_of source.model value) one
        → IfOk one (IsStartOf source.model turns)
    of (Ok start) read =
        subst (IsStartOf source.model turns) (sym read.1)
        (read_populations_fit source.model turns value accepted.named read.0)
    of (Err fail) read = tt
