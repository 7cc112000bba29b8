-- Rows of a kind stay rows of it, whatever the kind: where functions leave such rows, so does an iteration.
use Rattle.std.proofs.Common.{◌≡◌, ℕ, zero, suc, ◌+◌, true, false, cond, List, [], ◌∷◌, ◌++◌, map, Option, Some, None, Ok, Err, Result, refl, sym, ap, ◌∙◌, arith, subst}
use Rattle.std.specs.Prelude.{ℤ, ◌==◌, slice_get, slice_index_or}
use Rattle.std.specs.List.{filter, AllZip, zip, flat_map}
use Rattle.std.proofs.lemmas.Bool.{eqb-true}
use Rattle.flame_rows.specs.Order.{row_order}
use Rattle.flame_rows.specs.Bags.{ascending, merge}
use Rattle.flame_spec.specs.declared.models.Model.{Model}
use Rattle.flame_spec.specs.declared.models.AgentType.{AgentType}
use Rattle.flame_spec.specs.declared.models.MessageType.{MessageType}
use Rattle.flame_spec.specs.declared.models.Function.{Function}
use Rattle.flame_spec.specs.declared.outcomes.Source.{Source}
use Rattle.flame_spec.specs.declared.outcomes.Sent.{Sent}
use Rattle.flame_spec.specs.declared.outcomes.Born.{Born}
use Rattle.flame_spec.specs.declared.outcomes.Outcome.{Outcome}
use Rattle.flame_spec.specs.declared.outcomes.Outcome.TheVariants.{Ended, Faulted}
use Rattle.flame_spec.specs.Columns.{width}
use Rattle.flame_spec.specs.Functions.{Place, functions, functions_from, at_type}
use Rattle.flame_spec.specs.States.{states, is_entered, state_place}
use Rattle.flame_spec.specs.ModelOrder.{model_order}
use Rattle.flame_meaning.specs.RangeLaws.{Each, IfAny}
use Rattle.flame_world.specs.declared.faults.SimFault.{SimFault}
use Rattle.flame_world.specs.declared.turns.Turn.TheVariants.{Done}
use Rattle.flame_world.specs.declared.worlds.World.{World}
use Rattle.flame_world.specs.declared.worlds.Boards.{Boards}
use Rattle.flame_world.specs.AgentRuns.{kept, sent_by, born_by, survivors, sent_from, born_from, messages_of, births_of}
use Rattle.flame_world.specs.Fields.{Field, begun, opening, changed, changed_pool, joined_from, joined, gathered}
use Rattle.flame_world.specs.Iterations.{Round, resting, taking, staying, outcome_in, moved, unless_faulted, step_at, step, and_on, steps, turn_of, round_of, iteration}
use Rattle.flame_world.proofs.Eachs.{mapped, each_append, each_map, each_passing, each_filter_map, each_flat_map, zip_at, zip_changed, each_changed}
use Rattle.flame_meaning.proofs.Eachs.{each_filter, each_sorted, each_index}

-- ---- rows of a kind, which says for each width what a row of it is

-- a bag of them for each of these, as wide as it says
abbrev pub BagsFor : {X : Type 0} → (ℕ → List ℤ → Type 0) → (X → ℕ) → List X → List (List (List ℤ)) → Type 0
BagsFor IsRow wide xs bags = AllZip (λ x bag. Each (IsRow (wide x)) bag) xs bags

-- some bags of them for each type
abbrev pub PoolsFor : (ℕ → List ℤ → Type 0) → List AgentType → List (List (List (List ℤ))) → Type 0
PoolsFor IsRow types pools = AllZip (λ type own. Each (Each (IsRow (width type.memory))) own) types pools

pub record HasRows (IsRow : ℕ → List ℤ → Type 0) (model : Model) (field : Field) : Type 0 where
  pub pools : PoolsFor IsRow model.agents field.pools
  pub born : BagsFor IsRow (λ (type : AgentType). width type.memory) model.agents field.born
  pub boards : BagsFor IsRow (λ (message : MessageType). width message.variables) model.messages field.boards

-- ---- what one agent leaves

abbrev pub IsSentOf : (ℕ → List ℤ → Type 0) → Model → Sent → Type 0
IsSentOf IsRow model s =
    (message : MessageType) → slice_get model.messages s.message ≡ Some message → IsRow (width message.variables) s.row

abbrev pub IsBornOf : (ℕ → List ℤ → Type 0) → Model → Born → Type 0
IsBornOf IsRow model b =
    (type : AgentType) → slice_get model.agents b.agent ≡ Some type → IsRow (width type.memory) b.row

abbrev pub LeavesRows : (ℕ → List ℤ → Type 0) → Model → ℕ → Outcome → Type 0
LeavesRows IsRow model wide (Ended effect) =
    IfAny (IsRow wide) effect.memory × Each (IsSentOf IsRow model) effect.sent × Each (IsBornOf IsRow model) effect.born
LeavesRows IsRow model wide (Faulted fault) = Unit {0}

-- what the functions of a round leave of rows of the kind are rows of it
pub record RowsAreLeft (IsRow : ℕ → List ℤ → Type 0) (round : Round) : Type 0 where
  pub left : (function : ℕ) (field : Field) (memory : List ℤ) (wide : ℕ)
      → HasRows IsRow round.source.model field
      → IsRow wide memory
      → LeavesRows IsRow round.source.model wide (outcome_in round function field memory)

kept_rows : (IsRow : ℕ → List ℤ → Type 0) (model : Model) (wide : ℕ) (o : Outcome) → LeavesRows IsRow model wide o → IfAny (IsRow wide) (kept o)
kept_rows IsRow model wide (Ended effect) leaves = leaves.0
kept_rows IsRow model wide (Faulted fault) leaves = tt

sent_rows : (IsRow : ℕ → List ℤ → Type 0) (model : Model) (wide : ℕ) (o : Outcome) → LeavesRows IsRow model wide o → Each (IsSentOf IsRow model) (sent_by o)
sent_rows IsRow model wide (Ended effect) leaves = leaves.1
sent_rows IsRow model wide (Faulted fault) leaves = tt

born_rows : (IsRow : ℕ → List ℤ → Type 0) (model : Model) (wide : ℕ) (o : Outcome) → LeavesRows IsRow model wide o → Each (IsBornOf IsRow model) (born_by o)
born_rows IsRow model wide (Ended effect) leaves = leaves.2
born_rows IsRow model wide (Faulted fault) leaves = tt

-- ---- what some agents leave

type_at : (i : ℕ) (types : List AgentType) (f : ℕ) (place : Place)
    → slice_get (functions_from i types) f ≡ Some place
    → (k : ℕ) × ((place.agent ≡ i + k) × (slice_get types k ≡ Some place.type))
type_at i [] f place at = absurd cc
type_at i (type ∷ types) f place at = go type.functions f at (λ g there. type_at (i + 1) types g place there)
  where
    go : (own : List Function) (g : ℕ) → slice_get (map (at_type i type) own ++ functions_from (i + 1) types) g ≡ Some place
        → ((h : ℕ) → slice_get (functions_from (i + 1) types) h ≡ Some place → (k : ℕ) × ((place.agent ≡ (i + 1) + k) × (slice_get types k ≡ Some place.type)))
        → (k : ℕ) × ((place.agent ≡ i + k) × (slice_get (type ∷ types) k ≡ Some place.type))
    go [] g there later =
        let found = later g there in
        (suc found.0, (omega (arith, found.1.0), found.1.1))
    go (function ∷ own) zero there later =
        let same : at_type i type function ≡ place = cc in
        (0, (ap (λ p. p.agent) (sym same) ∙ omega arith, ap (λ p. Some p.type) same))
    go (function ∷ own) (suc g) there later = go own g there later

pub place_type : (model : Model) (f : ℕ) (place : Place) → slice_get (functions model) f ≡ Some place → slice_get model.agents place.agent ≡ Some place.type
place_type model f place at =
    let found = type_at 0 model.agents f place at in
    ap (slice_get model.agents) (found.1.0 ∙ omega arith) ∙ found.1.1

each_merged : (P : List ℤ → Type 0) (bag rows : List (List ℤ)) → Each P bag → Each P rows → Each P (merge bag rows)
each_merged P bag rows one two = each_sorted P row_order (bag ++ rows) (each_append P bag rows one two)

bags_joined_from : {X : Type 0} (IsRow : ℕ → List ℤ → Type 0) (wide : X → ℕ) (rows : ℕ → List (List ℤ)) (i : ℕ) (xs : List X) (bags : List (List (List ℤ)))
    → BagsFor IsRow wide xs bags
    → ((k : ℕ) (x : X) → slice_get xs k ≡ Some x → Each (IsRow (wide x)) (rows (i + k)))
    → BagsFor IsRow wide xs (joined_from i rows bags)
bags_joined_from IsRow wide rows i [] [] all come = tt
bags_joined_from IsRow wide rows i [] (bag ∷ bags) all come = absurd all
bags_joined_from IsRow wide rows i (x ∷ xs) [] all come = absurd all
bags_joined_from IsRow wide rows i (x ∷ xs) (bag ∷ bags) all come =
    let here : Each (IsRow (wide x)) (rows i) =
    subst (λ n. Each (IsRow (wide x)) (rows n)) (omega arith) (come 0 x refl) in (
      each_merged (IsRow (wide x)) bag (rows i) all.0 here,
      bags_joined_from IsRow wide rows (i + 1) xs bags all.1
          (λ k y at. subst (λ n. Each (IsRow (wide y)) (rows n)) (omega arith) (come (suc k) y at)),
    )

bags_joined : {X : Type 0} (IsRow : ℕ → List ℤ → Type 0) (wide : X → ℕ) (rows : ℕ → List (List ℤ)) (xs : List X) (bags : List (List (List ℤ)))
    → BagsFor IsRow wide xs bags
    → ((k : ℕ) (x : X) → slice_get xs k ≡ Some x → Each (IsRow (wide x)) (rows k))
    → BagsFor IsRow wide xs (joined rows bags)
bags_joined IsRow wide rows xs bags all come =
    bags_joined_from IsRow wide rows 0 xs bags all
    (λ k x at. subst (λ n. Each (IsRow (wide x)) (rows n)) (omega arith) (come k x at))

messages_rows : (IsRow : ℕ → List ℤ → Type 0) (model : Model) (sent : List Sent) → Each (IsSentOf IsRow model) sent
    → (k : ℕ) (message : MessageType) → slice_get model.messages k ≡ Some message
    → Each (IsRow (width message.variables)) (messages_of sent k)
messages_rows IsRow model sent all k message at =
    each_map (λ s. IsRow (width message.variables) s.row) (IsRow (width message.variables)) (λ s. s.row) (λ s is. is)
    (filter (λ (s : Sent). s.message == k) sent)
    (each_passing (IsSentOf IsRow model) (λ s. IsRow (width message.variables) s.row) (λ (s : Sent). s.message == k)
    (λ s passes is. is message (ap (slice_get model.messages) (eqb-true s.message k passes) ∙ at)) sent all)

births_rows : (IsRow : ℕ → List ℤ → Type 0) (model : Model) (born : List Born) → Each (IsBornOf IsRow model) born
    → (k : ℕ) (type : AgentType) → slice_get model.agents k ≡ Some type
    → Each (IsRow (width type.memory)) (births_of born k)
births_rows IsRow model born all k type at =
    each_map (λ b. IsRow (width type.memory) b.row) (IsRow (width type.memory)) (λ b. b.row) (λ b is. is)
    (filter (λ (b : Born). b.agent == k) born)
    (each_passing (IsBornOf IsRow model) (λ b. IsRow (width type.memory) b.row) (λ (b : Born). b.agent == k)
    (λ b passes is. is type (ap (slice_get model.agents) (eqb-true b.agent k passes) ∙ at)) born all)

-- ---- one step

pools_changed : (IsRow : ℕ → List ℤ → Type 0) (types : List AgentType) (pools : List (List (List (List ℤ)))) (agent state : ℕ) (type : AgentType) (change : List (List ℤ) → List (List ℤ))
    → slice_get types agent ≡ Some type
    → ((bag : List (List ℤ)) → Each (IsRow (width type.memory)) bag → Each (IsRow (width type.memory)) (change bag))
    → PoolsFor IsRow types pools
    → PoolsFor IsRow types (changed_pool agent state change pools)
pools_changed IsRow types pools agent state type change at keeps all =
    zip_changed (λ (t : AgentType) own. Each (Each (IsRow (width t.memory))) own) types pools agent (changed state change) all
    (λ t own there bags.
    let same : type ≡ t = cc in
    each_changed (Each (IsRow (width t.memory))) state change
    (λ bag is. subst (λ (u : AgentType). Each (IsRow (width u.memory)) bag → Each (IsRow (width u.memory)) (change bag)) same (keeps bag) is) own bags)

moved_rows : (IsRow : ℕ → List ℤ → Type 0) (round : Round) (function : ℕ) (place : Place) (field : Field)
    → RowsAreLeft IsRow round → slice_get (functions round.source.model) function ≡ Some place → HasRows IsRow round.source.model field
    → HasRows IsRow round.source.model (moved round function place field)
moved_rows IsRow round function place field given at is =
    let model = round.source.model in
    let wide = width place.type.memory in
    let typed = place_type model function place at in
    let run = outcome_in round function field in
    let rests : Each (IsRow wide) (resting place field) =
    each_index (Each (IsRow wide)) [] (slice_index_or field.pools place.agent []) (state_place place.type place.function.current) tt
    (zip_at (λ (t : AgentType) own. Each (Each (IsRow (width t.memory))) own) model.agents field.pools place.agent place.type [] is.pools typed) in
    let agents = taking round function place field in
    let rows : Each (IsRow wide) agents = each_filter (IsRow wide) _ (resting place field) rests in
    let leaves = λ (memory : List ℤ) (row : IsRow wide memory). given.left function field memory wide is row in
    let arrive : Each (IsRow wide) (survivors run agents) =
    each_sorted (IsRow wide) row_order _
    (each_filter_map (IsRow wide) (IsRow wide) (λ memory. kept (run memory)) (λ memory row. kept_rows IsRow model wide (run memory) (leaves memory row)) agents rows) in
    let sents =
    each_flat_map (IsRow wide) (IsSentOf IsRow model) (λ memory. sent_by (run memory)) (λ memory row. sent_rows IsRow model wide (run memory) (leaves memory row)) agents rows in
    let borns =
    each_flat_map (IsRow wide) (IsBornOf IsRow model) (λ memory. born_by (run memory)) (λ memory row. born_rows IsRow model wide (run memory) (leaves memory row)) agents rows in
    record {
      pools =
          pools_changed IsRow model.agents _ place.agent _ place.type (λ pool. merge pool (survivors run agents)) typed
          (λ bag bag_rows. each_merged (IsRow wide) bag (survivors run agents) bag_rows arrive)
          (pools_changed IsRow model.agents field.pools place.agent _ place.type (staying round function place) typed
          (λ bag bag_rows. each_filter (IsRow wide) _ bag bag_rows) is.pools);
      born =
          bags_joined IsRow (λ (t : AgentType). width t.memory) (births_of (born_from run agents)) model.agents field.born is.born
          (λ k type there. births_rows IsRow model (born_from run agents) borns k type there);
      boards =
          bags_joined IsRow (λ (m : MessageType). width m.variables) (messages_of (sent_from run agents)) model.messages field.boards is.boards
          (λ k message there. messages_rows IsRow model (sent_from run agents) sents k message there);
    }

-- what holds of the field, where there is no fault
abbrev pub IfOk : (Field → Type 0) → Result Field SimFault → Type 0
IfOk Holds (Ok field) = Holds field
IfOk Holds (Err fault) = Unit {0}

pub unless_kept : (Holds : Field → Type 0) (fault : Option SimFault) (field : Field) → Holds field → IfOk Holds (unless_faulted fault field)
unless_kept Holds None field is = is
unless_kept Holds (Some fault) field is = tt

step_at_rows : (IsRow : ℕ → List ℤ → Type 0) (round : Round) (function : ℕ) (field : Field) (found : Option Place)
    → RowsAreLeft IsRow round → slice_get (functions round.source.model) function ≡ found → HasRows IsRow round.source.model field
    → IfOk (HasRows IsRow round.source.model) (step_at found round function field)
step_at_rows IsRow round function field None given at is = is
step_at_rows IsRow round function field (Some place) given at is =
    unless_kept (HasRows IsRow round.source.model) _ _ (moved_rows IsRow round function place field given at is)

pub step_rows : (IsRow : ℕ → List ℤ → Type 0) (round : Round) (function : ℕ) (field : Field)
    → RowsAreLeft IsRow round → HasRows IsRow round.source.model field
    → IfOk (HasRows IsRow round.source.model) (step round function field)
step_rows IsRow round function field given is =
    step_at_rows IsRow round function field (slice_get (functions round.source.model) function) given refl is

-- ---- all steps

and_on_kept : (Holds : Field → Type 0) (r : Result Field SimFault) (go : Field → Result Field SimFault)
    → IfOk Holds r → ((field : Field) → Holds field → IfOk Holds (go field)) → IfOk Holds (and_on r go)
and_on_kept Holds (Ok field) go is later = later field is
and_on_kept Holds (Err fault) go is later = tt

steps_kept : (Holds : Field → Type 0) (round : Round) (order : List ℕ) (field : Field)
    → ((function : ℕ) (before : Field) → Holds before → IfOk Holds (step round function before))
    → Holds field → IfOk Holds (steps round order field)
steps_kept Holds round [] field keeps is = is
steps_kept Holds round (function ∷ order) field keeps is =
    and_on_kept Holds (step round function field) (steps round order) (keeps function field is)
    (λ next next_is. steps_kept Holds round order next keeps next_is)

turn_kept : (Holds : Field → Type 0) (Ends : World → Boards → Type 0) (constants : List ℤ) (r : Result Field SimFault) (after : World) (boards : Boards)
    → ((field : Field) → Holds field → Ends (record { constants = constants; agents = gathered field }) (record { boards = field.boards }))
    → IfOk Holds r
    → turn_of constants r ≡ Done after boards
    → Ends after boards
turn_kept Holds Ends constants (Err fault) after boards ends is done = absurd cc
turn_kept Holds Ends constants (Ok field) after boards ends is done =
    let worlds : record { constants = constants; agents = gathered field } ≡ after = cc in
    let both : record { boards = field.boards } ≡ boards = cc in
    subst (λ (b : Boards). Ends after b) both
    (subst (λ (w : World). Ends w (record { boards = field.boards })) worlds (ends field is))

-- what holds at the opening and is kept by each step gives what holds at the end
pub iteration_kept : (Holds : Field → Type 0) (Ends : World → Boards → Type 0)
    (source : Source) (world after : World) (number : ℤ) (fuel : ℕ) (boards : Boards)
    → Holds (opening source.model world.agents)
    → ((function : ℕ) (field : Field) → Holds field → IfOk Holds (step (round_of source world number fuel) function field))
    → ((field : Field) → Holds field → Ends (record { constants = world.constants; agents = gathered field }) (record { boards = field.boards }))
    → iteration source world number fuel ≡ Done after boards
    → Ends after boards
iteration_kept Holds Ends source world after number fuel boards opened keeps ends done =
    let field = opening source.model world.agents in
    let order = model_order source.model in
    turn_kept Holds Ends world.constants _ after boards ends
    (steps_kept Holds (round_of source world number fuel) order field keeps opened) done

-- ---- the beginning and the end

pools_begun : (IsRow : ℕ → List ℤ → Type 0) (types : List AgentType) (bags : List (List (List ℤ)))
    → BagsFor IsRow (λ (type : AgentType). width type.memory) types bags
    → PoolsFor IsRow types (map (λ (type, bag). begun type bag) (zip types bags))
pools_begun IsRow [] [] all = tt
pools_begun IsRow [] (bag ∷ bags) all = absurd all
pools_begun IsRow (type ∷ types) [] all = absurd all
pools_begun IsRow (type ∷ types) (bag ∷ bags) all = (
  mapped (Each (IsRow (width type.memory))) (λ state. cond (is_entered type.functions state) [] (ascending bag))
      (λ state. elim (is_entered type.functions state) as (λ t. Each (IsRow (width type.memory)) (cond t [] (ascending bag))) [
        | true ↦ tt
        | false ↦ each_sorted (IsRow (width type.memory)) row_order bag all.0
      ])
      (states type.functions),
  pools_begun IsRow types bags all.1,
)

bags_empty : {X : Type 0} (IsRow : ℕ → List ℤ → Type 0) (wide : X → ℕ) (xs : List X) → BagsFor IsRow wide xs (map (λ x. []) xs)
bags_empty IsRow wide [] = tt
bags_empty IsRow wide (x ∷ xs) = (tt, bags_empty IsRow wide xs)

pub opening_rows : (IsRow : ℕ → List ℤ → Type 0) (model : Model) (agents : List (List (List ℤ)))
    → BagsFor IsRow (λ (type : AgentType). width type.memory) model.agents agents
    → HasRows IsRow model (opening model agents)
opening_rows IsRow model agents all = record {
  pools = pools_begun IsRow model.agents agents all;
  born = bags_empty IsRow (λ (type : AgentType). width type.memory) model.agents;
  boards = bags_empty IsRow (λ (message : MessageType). width message.variables) model.messages;
}

bags_gathered : (IsRow : ℕ → List ℤ → Type 0) (types : List AgentType) (pools : List (List (List (List ℤ)))) (born : List (List (List ℤ)))
    → PoolsFor IsRow types pools
    → BagsFor IsRow (λ (type : AgentType). width type.memory) types born
    → BagsFor IsRow (λ (type : AgentType). width type.memory) types (map (λ (own, more). merge (flat_map (λ pool. pool) own) more) (zip pools born))
bags_gathered IsRow [] [] [] all births = tt
bags_gathered IsRow [] [] (bag ∷ born) all births = absurd births
bags_gathered IsRow [] (own ∷ pools) born all births = absurd all
bags_gathered IsRow (type ∷ types) [] born all births = absurd all
bags_gathered IsRow (type ∷ types) (own ∷ pools) [] all births = absurd births
bags_gathered IsRow (type ∷ types) (own ∷ pools) (bag ∷ born) all births =
    let Row = IsRow (width type.memory) in (
      each_merged Row (flat_map (λ pool. pool) own) bag (each_flat_map (Each Row) Row (λ pool. pool) (λ pool is. is) own all.0) births.0,
      bags_gathered IsRow types pools born all.1 births.1,
    )

pub gathered_rows : (IsRow : ℕ → List ℤ → Type 0) (model : Model) (field : Field)
    → HasRows IsRow model field
    → BagsFor IsRow (λ (type : AgentType). width type.memory) model.agents (gathered field)
gathered_rows IsRow model field is = bags_gathered IsRow model.agents field.pools field.born is.pools is.born
