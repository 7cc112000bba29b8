-- The serial run, which goes on after a fault: from it come the ideal and what its fields hold.
use Rattle.std.proofs.Common.{◌≡◌, ℕ, zero, suc, ◌+◌, ◌<◌, ◌≤◌, ◌⊎◌, inl, inr, ⊎_elim, Bool, true, false, cond, List, [], ◌∷◌, ◌++◌, length, get_or, Option, Some, None, Result, Ok, Err, refl, sym, ap, ◌∙◌, arith, subst}
use Rattle.std.specs.Prelude.{not, ◌==◌, ◌||◌, nat_lt, slice_get, slice_index_or, option_map}
use Rattle.std.specs.Option.{option_or}
use Rattle.std.specs.List.{filter, filter_map, cons_option}
use Rattle.std.proofs.lemmas.Bool.{cases_lt, eqb-true, eq-eqb, ne_eqb, or_cases, or_left, or_right, or_parts, or_from, true≢false, false≢true}
use Rattle.std.proofs.lemmas.Option.{slice_get_within}
use Rattle.flame_rows.specs.Order.{row_order}
use Rattle.flame_rows.specs.Sorted.{IsAscending}
use Rattle.flame_rows.specs.Bags.{merge, weigh}
use Rattle.flame_rows.proofs.BagLaws.{merge_adds_weights, IsAscending-merge}
use Rattle.flame_rows.proofs.Truths.{eqb-sym}
use Rattle.flame_spec.specs.declared.models.Model.{Model}
use Rattle.flame_spec.specs.declared.models.Input.{Input}
use Rattle.flame_spec.specs.declared.models.MessageType.{MessageType}
use Rattle.flame_spec.specs.declared.outcomes.Outcome.{Outcome}
use Rattle.flame_spec.specs.Before.{before, function_count}
use Rattle.flame_spec.specs.Below.{is_in}
use Rattle.flame_spec.specs.Choice.{is_chosen}
use Rattle.flame_spec.specs.Functions.{Place, functions}
use Rattle.flame_spec.specs.ModelOrder.{model_order, left_over}
use Rattle.flame_spec.proofs.Orders.{order_keeps, ready_taken}
use Rattle.flame_spec.proofs.FirstBelow.{none_fails}
use Rattle.flame_meaning.specs.Outcomes.{message_named}
use Rattle.flame_meaning.proofs.Boards.{input_boards_count}
use Rattle.flame_meaning.proofs.Sending.{found_get}
use Rattle.flame_world.specs.declared.faults.SimFault.{SimFault}
use Rattle.flame_world.specs.AgentRuns.{sent_by, sent_from, born_from, messages_of, births_of, survivors, least_fault}
use Rattle.flame_spec.specs.States.{state_place}
use Rattle.flame_world.specs.Fields.{Field, pool_in, changed_pool, joined}
use Rattle.flame_world.specs.Iterations.{Round, taking, outcome_in, moved}
use Rattle.flame_events.specs.LegalEvents.{inputs_at, inputs_of, outputs_of}
use Rattle.flame_events.proofs.Weights.{Row, Rows, Weight, only, weigh-same}
use Rattle.flame_events.proofs.Spots.{Spot, leaves_at, leaves, enters, state_at, pool_at, choice_at, choice_leaves, enters_before, at_type}
use Rattle.flame_events.proofs.Pools.{length-joined, joined-at}
use Rattle.flame_events.proofs.Holding.{Ideal, lived, sent, born, messages_of-append, takes, over, rests, resting, Holds}
use Rattle.flame_events.proofs.Moves.{put, left, holds-opened, holds-more, Arrives, rows_arrive}

-- ---- numbers in lists

pub is_in-self : (f : ℕ) (fs : List ℕ) → is_in f (f ∷ fs) ≡ true
is_in-self f fs = or_left (f == f) (is_in f fs) (eq-eqb f f refl)

pub is_in-later : (g f : ℕ) (fs : List ℕ) → is_in g fs ≡ true → is_in g (f ∷ fs) ≡ true
is_in-later g f fs within = or_right (f == g) (is_in g fs) within

pub is_in-cases : (g f : ℕ) (fs : List ℕ) → is_in g (f ∷ fs) ≡ true → (g ≡ f) ⊎ (is_in g fs ≡ true)
is_in-cases g f fs within =
    ⊎_elim (λ (same : (f == g) ≡ true). inl (sym (eqb-true f g same))) (λ (later : is_in g fs ≡ true). inr later)
    (or_cases (f == g) (is_in g fs) within)

-- ---- model order

-- what stands before a function of the order comes earlier, and none comes twice
abbrev pub IsOrdered : Model → List ℕ → List ℕ → Type 0
IsOrdered model done [] = Unit {0}
IsOrdered model done (f ∷ fs) =
    (is_in f done ≡ false)
    × (f < function_count model)
    × ((g : ℕ) → g < function_count model → before model g f ≡ true → is_in g done ≡ true)
    × IsOrdered model (f ∷ done) fs

ordered_push : (model : Model) (done fs : List ℕ) (g : ℕ)
    → is_in g done ≡ false → is_in g fs ≡ false → g < function_count model
    → ((h : ℕ) → h < function_count model → before model h g ≡ true → (is_in h done ≡ true) ⊎ (is_in h fs ≡ true))
    → IsOrdered model done fs → IsOrdered model done (fs ++ g ∷ [])
ordered_push model done [] g new fresh below earlier ordered =
    (new, below, λ h less stands. ⊎_elim (λ (e : is_in h done ≡ true). e) (λ (e : false ≡ true). absurd (false≢true e)) (earlier h less stands), tt)
ordered_push model done (f ∷ fs) g new fresh below earlier ordered =
    let parts = or_parts (f == g) (is_in g fs) fresh in (
      ordered.0,
      ordered.1,
      ordered.2,
      ordered_push model (f ∷ done) fs g (or_from (f == g) (is_in g done) parts.0 new) parts.1 below
          (λ h less stands. ⊎_elim
          (λ (e : is_in h done ≡ true). inl (is_in-later h f done e))
          (λ (e : is_in h (f ∷ fs) ≡ true). ⊎_elim
          (λ (same : h ≡ f). inl (subst (λ k. is_in k (f ∷ done) ≡ true) (sym same) (is_in-self f done)))
          (λ (later : is_in h fs ≡ true). inr later)
          (is_in-cases h f fs e))
          (earlier h less stands))
          ordered.3,
    )

pub order_is_ordered : (model : Model) → IsOrdered model [] (model_order model)
order_is_ordered model =
    let n = function_count model in
    order_keeps n (before model) (IsOrdered model [])
    (λ taken g next ordered.
    ordered_push model [] taken g refl next.fresh next.below
    (λ h less stands. inr (ready_taken n (before model) taken g next.ready h less stands)) ordered)
    n [] tt

pub order_is_whole : (model : Model) → left_over model ≡ None → (g : ℕ) → g < function_count model → is_in g (model_order model) ≡ true
order_is_whole model none g less = there (is_in g (model_order model)) (none_fails (λ f. not (is_in f (model_order model))) (function_count model) none g less)
  where
    there : (b : Bool) → not b ≡ false → b ≡ true
    there true h = refl
    there false h = absurd (true≢false h)

-- all that stands before a function of the list is in it
pub record IsDone (model : Model) (done : List ℕ) : Type 0 where
  pub closed : (g f : ℕ) → g < function_count model → is_in f done ≡ true → before model g f ≡ true → is_in g done ≡ true
  pub below : (f : ℕ) → is_in f done ≡ true → f < function_count model

pub nothing_done : (model : Model) → IsDone model []
nothing_done model = record { closed = λ g f less within stands. absurd (false≢true within); below = λ f within. absurd (false≢true within) }

pub done_more : (model : Model) (done : List ℕ) (f : ℕ) → IsDone model done → f < function_count model
    → ((g : ℕ) → g < function_count model → before model g f ≡ true → is_in g done ≡ true) → IsDone model (f ∷ done)
done_more model done f is below earlier = record {
  closed = λ g h less within stands. is_in-later g f done
      (⊎_elim
      (λ (same : h ≡ f). earlier g less (subst (λ k. before model g k ≡ true) same stands))
      (λ (old : is_in h done ≡ true). is.closed g h less old stands)
      (is_in-cases h f done within));
  below = λ h within. ⊎_elim
      (λ (same : h ≡ f). subst (λ k. k < function_count model) (sym same) below)
      (λ (old : is_in h done ≡ true). is.below h old)
      (is_in-cases h f done within);
}

-- ---- the run that goes on after faults

abbrev pub stepped_at : Option Place → Round → ℕ → Field → Field
stepped_at None round f field = field
stepped_at (Some place) round f field = moved round f place field

abbrev pub stepped : Round → ℕ → Field → Field
stepped round f field = stepped_at (slice_get (functions round.source.model) f) round f field

-- the field before f runs, where these functions run one after another
abbrev pub before_of : Round → List ℕ → Field → ℕ → Field
before_of round [] field f = field
before_of round (g ∷ gs) field f = cond (f == g) field (before_of round gs (stepped round g field) f)

abbrev pub taken_at : Option Place → Round → ℕ → Field → Rows
taken_at None round f field = []
taken_at (Some place) round f field = taking round f place field

abbrev pub met : Round → Field → ℕ → Field
met round field f = before_of round (model_order round.source.model) field f

abbrev pub ideal : Round → Field → Ideal
ideal round field = record {
  agents = λ f. taken_at (slice_get (functions round.source.model) f) round f (met round field f);
  run = λ f. outcome_in round f (met round field f);
}

-- ---- faults

abbrev pub should_fault : Round → Ideal → ℕ → Option SimFault
should_fault round t f = least_fault round.iteration f (t.run f) (t.agents f)

-- the first along these functions
abbrev pub first_should : Round → Ideal → List ℕ → Option SimFault
first_should round t [] = None
first_should round t (f ∷ fs) = option_or (should_fault round t f) (first_should round t fs)

-- ---- fields after some functions

abbrev pub all_of : Ideal → (ℕ → Bool) → ℕ → Rows
all_of t done g = cond (done g) (t.agents g) []

abbrev pub HoldsAfter : Round → (Spot → Rows) → Ideal → (ℕ → Bool) → Field → Type 0
HoldsAfter round start t done field = Holds round start t field (λ f. not (done f)) (all_of t done) (λ m. all_of t done)

abbrev pub is_function : Round → ℕ → Bool
is_function round f = nat_lt f (function_count round.source.model)

-- what the steps of an iteration come to: a field after all functions, or the fault
abbrev pub IsEnd : Round → (Spot → Rows) → Ideal → Option SimFault → Result Field SimFault → Type 0
IsEnd round start t fault (Ok field) = (fault ≡ None) × HoldsAfter round start t (is_function round) field
IsEnd round start t fault (Err found) = fault ≡ Some found

-- what functions send is of their outputs
abbrev pub Sends : Round → Ideal → Type 0
Sends round t = (f : ℕ) → f < function_count round.source.model → (memory : Row) (m : ℕ)
    → is_in m (outputs_of round.source.model f) ≡ false → messages_of (sent_by (t.run f memory)) m ≡ []

pub sends_none : (round : Round) (t : Ideal) → Sends round t → (f : ℕ) → f < function_count round.source.model → (m : ℕ)
    → is_in m (outputs_of round.source.model f) ≡ false → (rows : Rows) → sent t f m rows ≡ []
sends_none round t sends f less m out [] = refl
sends_none round t sends f less m out (row ∷ rows) =
    let head = sends f less row m out in
    let rest = sends_none round t sends f less m out rows in
    messages_of-append m (sent_by (t.run f row)) (sent_from (t.run f) rows) ∙ (λ i. head i ++ rest i)

-- ---- f runs

-- the field after f ran, by what its agents are and do
abbrev pub moved_by : Round → ℕ → Place → (Row → Outcome) → Rows → Field → Field
moved_by round f place run agents field = record {
  pools =
      changed_pool place.agent (state_place place.type place.function.next) (λ pool. merge pool (survivors run agents))
      (left round f place field).pools;
  born = joined (births_of (born_from run agents)) field.born;
  boards = joined (messages_of (sent_from run agents)) field.boards;
}

-- an agent that arrives where f leaves its agents has a choice that is still to come
pub nobody_late : (round : Round) (done : ℕ → Bool) (f : ℕ) (memory : Row)
    → f < function_count round.source.model
    → ((g : ℕ) → g < function_count round.source.model → before round.source.model f g ≡ true → done g ≡ false)
    → resting round (λ g. not (done g)) (enters round.source.model f) memory ≡ true
nobody_late round done f memory below later = go (choice_at round (enters round.source.model f) memory) refl
  where
    go : (o : Option ℕ) → choice_at round (enters round.source.model f) memory ≡ o → rests (λ g. not (done g)) o ≡ true
    go None chosen = refl
    go (Some g) chosen =
        let is = choice_leaves round (enters round.source.model f) memory g chosen in
        let less = slice_get_within (functions round.source.model) g is.place is.there in
        ap not (later g less (enters_before round.source.model f g below less (sym is.from)))

pub weigh-joined : (w : Weight) (rows : ℕ → Rows) (bags : List Rows) (k : ℕ) → k < length bags
    → weigh w (slice_index_or (joined rows bags) k []) ≡ weigh w (slice_index_or bags k []) + weigh w (rows k)
weigh-joined w rows bags k less = ap (weigh w) (joined-at rows bags k less) ∙ merge_adds_weights w (slice_index_or bags k []) (rows k)

past_end : (xs : List Rows) (k : ℕ) → length xs ≤ k → slice_index_or xs k [] ≡ []
past_end [] k over = refl
past_end (x ∷ xs) zero over = absurd (omega (arith, over))
past_end (x ∷ xs) (suc k) over = past_end xs k (omega (arith, over))

pub joined-up : (rows : ℕ → Rows) (bags : List Rows) (k : ℕ) → IsAscending row_order (slice_index_or (joined rows bags) k [])
joined-up rows bags k = ⊎_elim
    (λ (less : k < length bags). subst (IsAscending row_order) (sym (joined-at rows bags k less)) (IsAscending-merge (slice_index_or bags k []) (rows k)))
    (λ (over : length bags ≤ k). subst (IsAscending row_order) (sym (past_end (joined rows bags) k (omega (arith, over, length-joined rows bags)))) tt)
    (cases_lt k (length bags))

abbrev within : List ℕ → ℕ → Bool
within done f = is_in f done

module _ (round : Round) (start : Spot → Rows) (t : Ideal) (sends : Sends round t) (done : List ℕ) (is : IsDone round.source.model done) (a : Field)
    (h : HoldsAfter round start t (within done) a) (f : ℕ) (place : Place)
    (at : slice_get (functions round.source.model) f ≡ Some place) (below : f < function_count round.source.model)
    (fresh : is_in f done ≡ false)
    (earlier : (g : ℕ) → g < function_count round.source.model → before round.source.model g f ≡ true → is_in g done ≡ true) where
  abbrev agents : Rows
  agents = t.agents f

  abbrev after : List ℕ
  after = f ∷ done

  opened : Holds round start t (left round f place a) (λ g. not (within after g)) (all_of t (within done)) (λ m. all_of t (within done))
  opened =
      subst (λ (still : ℕ → Bool). Holds round start t (left round f place a) still (all_of t (within done)) (λ m. all_of t (within done)))
      (λ i g. same g i)
      (holds-opened round start t a (λ g. not (within done g)) (all_of t (within done)) (λ m. all_of t (within done)) h f place at)
    where
      by : (b c : Bool) → cond b false (not c) ≡ not (b || c)
      by true c = refl
      by false c = refl

      same : (g : ℕ) → put (λ g. not (within done g)) f false g ≡ not (within after g)
      same g = ap (λ b. cond b false (not (is_in g done))) (eqb-sym g f) ∙ by (f == g) (is_in g done)

  late : (g : ℕ) → g < function_count round.source.model → before round.source.model f g ≡ true → within after g ≡ false
  late g less stands = go (within after g) refl
    where
      go : (b : Bool) → within after g ≡ b → b ≡ false
      go true e = absurd (⊎_elim
          (λ (same : g ≡ f). false≢true (sym fresh ∙ earlier f below (subst (λ k. before round.source.model f k ≡ true) same stands)))
          (λ (old : is_in g done ≡ true). false≢true (sym fresh ∙ is.closed f g below old stands))
          (is_in-cases g f done e))
      go false e = refl

  new : all_of t (within after) f ≡ agents
  new = ap (λ b. cond b agents []) (is_in-self f done)

  old : all_of t (within done) f ≡ []
  old = ap (λ b. cond b agents []) fresh

  from_none : (v : Rows → ℕ) → v [] ≡ 0 → v (all_of t (within after) f) ≡ v (all_of t (within done) f) + v agents
  from_none v none = omega (arith, ap v new, ap v old, none)

  rest : (g : ℕ) → (g ≡ f → ⊥) → all_of t (within after) g ≡ all_of t (within done) g
  rest g apart = ap (λ b. cond (b || is_in g done) (t.agents g) []) (ne_eqb f g (λ z. apart (sym z)))

  arrived : Arrives round f (left round f place a).pools (moved_by round f place (t.run f) agents a).pools (lived t f agents)
  arrived = rows_arrive round f place (left round f place a) (lived t f agents) at opened.shape.pools opened.pools_up

  board_more : (m : ℕ) (w : Weight) → m < length round.source.model.messages
      → weigh w (slice_index_or (joined (messages_of (sent_from (t.run f) agents)) a.boards) m [])
      ≡ weigh w (slice_index_or a.boards m []) + weigh w (cond (is_in m (outputs_of round.source.model f)) (sent t f m agents) [])
  board_more m w less =
      weigh-joined w (messages_of (sent_from (t.run f) agents)) a.boards m (omega (arith, less, h.shape.boards))
      ∙ (elim (is_in m (outputs_of round.source.model f)) as (λ b. is_in m (outputs_of round.source.model f) ≡ b
      → weigh w (slice_index_or a.boards m []) + weigh w (sent t f m agents)
      ≡ weigh w (slice_index_or a.boards m []) + weigh w (cond b (sent t f m agents) [])) [
        | true ↦ λ writes. refl
        | false ↦ λ out. ap (λ rows. weigh w (slice_index_or a.boards m []) + weigh w rows) (sends_none round t sends f below m out agents)
      ])
      refl

  pub holds-moved_by : HoldsAfter round start t (within (f ∷ done)) (moved_by round f place (t.run f) (t.agents f) a)
  holds-moved_by =
      let model = round.source.model in
      holds-more round start t f (left round f place a) (moved_by round f place (t.run f) agents a) (λ g. not (within after g))
      (all_of t (within done)) (all_of t (within after)) (λ m. all_of t (within done)) (λ m. all_of t (within after))
      (lived t f agents) (λ m. sent t f m agents) (λ k. born t f k agents) opened below
      (record {
        pools = arrived.weighs;
        boards = board_more;
        births = λ k w less. weigh-joined w (births_of (born_from (t.run f) agents)) a.born k (omega (arith, less, h.shape.born));
        pools_up = arrived.up;
        boards_up = joined-up (messages_of (sent_from (t.run f) agents)) a.boards;
        born_up = joined-up (births_of (born_from (t.run f) agents)) a.born;
        shape = record {
          pools = arrived.shape;
          born = length-joined (births_of (born_from (t.run f) agents)) a.born ∙ h.shape.born;
          boards = length-joined (messages_of (sent_from (t.run f) agents)) a.boards ∙ h.shape.boards;
        };
        ran_else = rest;
        handed_else = λ m. rest;
        lived_more = λ w. from_none (λ rows. weigh w (lived t f rows)) refl;
        sent_more = λ m w _. from_none (λ rows. weigh w (sent t f m rows)) refl;
        born_more = λ k w. from_none (λ rows. weigh w (born t f k rows)) refl;
        arrive = λ w. weigh-same (only (resting round (λ g. not (within after g)) (enters model f)) w) w (lived t f agents)
            (λ memory. ap (λ b. cond b (w memory) 0) (nobody_late round (within after) f memory below late));
      })

-- ---- what f meets

pub taking_is : (round : Round) (f : ℕ) (place : Place) (field : Field)
    → slice_get (functions round.source.model) f ≡ Some place
    → taking round f place field ≡ filter (takes round f) (pool_at round.source.model field.pools (leaves round.source.model f))
taking_is round f place field at =
    let model = round.source.model in
    let from : Spot = leaves_at (Some place) in
    let typed = at_type model f place at in
    let at_from = λ (p : Spot). filter (λ memory. is_chosen f (choice_at round p memory)) (pool_at model field.pools p) in
    ap (λ o. filter (λ memory. is_chosen f (choice_at round from memory))
    (pool_in field.pools place.agent (state_at o place.function.current))) (sym typed.type)
    ∙ ap at_from (sym (ap leaves_at at))

is_in-mapped : {X : Type 0} (map_to : X → Option ℕ) (xs : List X) (k m : ℕ) (d : X) → k < length xs → map_to (get_or xs k d) ≡ Some m → is_in m (filter_map map_to xs) ≡ true
is_in-mapped map_to [] k m d less is = absurd (omega (arith, less))
is_in-mapped map_to (x ∷ xs) zero m d less is = ap (λ o. is_in m (cons_option o (filter_map map_to xs))) is ∙ is_in-self m (filter_map map_to xs)
is_in-mapped {X} map_to (x ∷ xs) (suc k) m d less is = later (map_to x) (is_in-mapped map_to xs k m d (omega (arith, less)) is)
  where
    later : (o : Option ℕ) → is_in m (filter_map map_to xs) ≡ true → is_in m (cons_option o (filter_map map_to xs)) ≡ true
    later None e = e
    later (Some n) e = is_in-later m n (filter_map map_to xs) e

-- over boards that agree on the inputs the outcome is the same
pub over_same : (round : Round) (f : ℕ) (boards others : List Rows)
    → ((m : ℕ) → m < length round.source.model.messages → is_in m (inputs_of round.source.model f) ≡ true → slice_index_or boards m [] ≡ slice_index_or others m [])
    → (memory : Row) → over round f boards memory ≡ over round f others memory
over_same round f boards others agree memory =
    let model = round.source.model in
    input_boards_count round.source f memory boards others round.constants round.iteration round.fuel
    (λ place at k d less found named.
    let reads = is_in-mapped (λ (input : Input). option_map (λ (found : ℕ × MessageType). found.0) (message_named model.messages input.message))
    place.function.inputs k found.0 d less (ap (option_map (λ (found : ℕ × MessageType). found.0)) named) in
    let there = found_get _ model.messages found named in
    agree found.0 (slice_get_within model.messages found.0 found.1 there) (ap (λ o. is_in found.0 (inputs_at o model)) at ∙ reads))
