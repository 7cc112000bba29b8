-- What opening functions leaves to the takers of others.
use Rattle.std.proofs.Common.{◌≡◌, ℕ, zero, suc, ⊎_elim, Bool, true, false, cond, List, [], ◌∷◌, Option, Some, None, refl, sym, ap, ◌∙◌}
use Rattle.std.specs.Prelude.{not, slice_get, slice_index_or}
use Rattle.std.specs.List.{filter}
use Rattle.std.proofs.lemmas.Bool.{cases_eq, eqb-true, ne_eqb, true≢false}
use Rattle.std.proofs.lemmas.Option.{same_Some}
use Rattle.flame_spec.specs.declared.models.AgentType.{AgentType}
use Rattle.flame_spec.specs.Choice.{choice, is_chosen, takers}
use Rattle.flame_spec.specs.Functions.{Place, functions}
use Rattle.flame_spec.specs.States.{state_place}
use Rattle.flame_world.specs.Fields.{Field, pool_in, changed, changed_pool}
use Rattle.flame_world.specs.Iterations.{Round, taking, staying}
use Rattle.flame_events.specs.declared.events.Event.TheVariants as event
use Rattle.flame_events.specs.EventSteps.{opened, after}
use Rattle.flame_events.proofs.Weights.{Row, Rows}
use Rattle.flame_events.proofs.Spots.{at_type}
use Rattle.flame_events.proofs.Pools.{changed-else, places_apart}
use Rattle.flame_events.proofs.Moves.{left}
use Rattle.flame_orders.specs.OtherTakers.{OpeningLeavesOtherTakers, OpeningsLeaveOtherTakers}

-- ---- a pool changed

-- there or not, where a change makes nothing of nothing
changed-any : {X : Type 0} (place : ℕ) (change : X → X) (d : X) (xs : List X) → change d ≡ d
    → slice_index_or (changed place change xs) place d ≡ change (slice_index_or xs place d)
changed-any place change d [] none = sym none
changed-any zero change d (x ∷ xs) none = refl
changed-any (suc place) change d (x ∷ xs) none = changed-any place change d xs none

pool-changed : (agent state : ℕ) (change : Rows → Rows) (pools : List (List Rows)) → change [] ≡ []
    → pool_in (changed_pool agent state change pools) agent state ≡ change (pool_in pools agent state)
pool-changed agent state change pools none =
    ap (λ own. slice_index_or own state []) (changed-any agent (changed state change) [] pools refl)
    ∙ changed-any state change [] (slice_index_or pools agent []) none

pool-else : (agent state at : ℕ) (change : Rows → Rows) (pools : List (List Rows)) → (at ≡ state → ⊥)
    → pool_in (changed_pool agent state change pools) agent at ≡ pool_in pools agent at
pool-else agent state at change pools apart =
    ap (λ own. slice_index_or own at []) (changed-any agent (changed state change) [] pools refl)
    ∙ changed-else state at change [] (slice_index_or pools agent []) apart

-- ---- rows that pass

kept_out : (row : Row) (rows : Rows) (b : Bool) → (b ≡ true → ⊥) → cond b (row ∷ rows) rows ≡ rows
kept_out row rows true never = absurd (never refl)
kept_out row rows false never = refl

-- whoever passes the second test passes the first
filter-weaker : (first second : Row → Bool) → ((row : Row) → second row ≡ true → first row ≡ true) → (rows : Rows) → filter second (filter first rows) ≡ filter second rows
filter-weaker first second also [] = refl
filter-weaker first second also (row ∷ rows) =
    let rest = filter-weaker first second also rows in
    (elim (first row) as (λ t. first row ≡ t → filter second (cond t (row ∷ filter first rows) (filter first rows)) ≡ cond (second row) (row ∷ filter second rows) (filter second rows)) [
      | true ↦ λ _. ap (λ l. cond (second row) (row ∷ l) l) rest
      | false ↦ λ fails. rest ∙ sym (kept_out row (filter second rows) (second row) (λ passes. true≢false (sym (also row passes) ∙ fails)))
    ])
    refl

chosen_else : (f g : ℕ) (o : Option ℕ) → (f ≡ g → ⊥) → is_chosen g o ≡ true → not (is_chosen f o) ≡ true
chosen_else f g None apart chosen = refl
chosen_else f g (Some h) apart chosen = ap not (ne_eqb h f (λ same. apart (sym same ∙ eqb-true h g chosen)))

-- ---- one function is opened

module _ (round : Round) (f g : ℕ) (one other : Place) (field : Field)
    (at : slice_get (functions round.source.model) f ≡ Some one) (there : slice_get (functions round.source.model) g ≡ Some other) (apart : f ≡ g → ⊥) where
  abbrev state : ℕ
  state = state_place one.type one.function.current

  abbrev its_state : ℕ
  its_state = state_place other.type other.function.current

  abbrev takes : Rows → Rows
  takes rows = takers round.source.model other.agent other.function.current g round.iteration rows

  abbrev stays : Rows → Rows
  stays rows = staying round f one rows

  -- both leave one state
  one_state : other.agent ≡ one.agent → its_state ≡ state → (rows : Rows) → takes (stays rows) ≡ takes rows
  one_state agents places rows =
      let model = round.source.model in
      let typed = at_type model f one at in
      let its_typed = at_type model g other there in
      let types : other.type ≡ one.type = same_Some other.type one.type (sym its_typed.type ∙ ap (slice_get model.agents) agents ∙ typed.type) in
      let texts : other.function.current ≡ one.function.current =
      places_apart one.type one.function.current other.function.current typed.current (sym (ap (λ (type : AgentType). state_place type other.function.current) types) ∙ places) in
      let own : Row → Option ℕ = λ memory. choice model other.agent other.function.current memory round.iteration in
      (λ i. takes (filter (λ memory. not (is_chosen f (choice model (sym agents i) (sym texts i) memory round.iteration))) rows))
      ∙ filter-weaker (λ memory. not (is_chosen f (own memory))) (λ memory. is_chosen g (own memory)) (λ memory chosen. chosen_else f g (own memory) apart chosen) rows

  same_takers : taking round g other (left round f one field) ≡ taking round g other field
  same_takers = ⊎_elim
      (λ (agents : other.agent ≡ one.agent). ⊎_elim
      (λ (places : its_state ≡ state).
      ap takes ((λ i. pool_in (left round f one field).pools (agents i) (places i)) ∙ pool-changed one.agent state stays field.pools refl
      ∙ (λ i. stays (pool_in field.pools (sym agents i) (sym places i))))
      ∙ one_state agents places (pool_in field.pools other.agent its_state))
      (λ (else : its_state ≡ state → ⊥).
      ap takes (ap (λ a. pool_in (left round f one field).pools a its_state) agents ∙ pool-else one.agent state its_state stays field.pools else
      ∙ ap (λ a. pool_in field.pools a its_state) (sym agents)))
      (cases_eq its_state state))
      (λ (else : other.agent ≡ one.agent → ⊥).
      ap (λ own. takes (slice_index_or own its_state [])) (changed-else one.agent other.agent (changed state stays) [] field.pools else))
      (cases_eq other.agent one.agent)

pub opening_leaves_other_takers : OpeningLeavesOtherTakers
opening_leaves_other_takers round pieces g f other core there apart = go (slice_get (functions round.source.model) f) refl
  where
    go : (o : Option Place) → slice_get (functions round.source.model) f ≡ o → taking round g other (opened round pieces f o core).field ≡ taking round g other core.field
    go None at = refl
    go (Some one) at = same_takers round f g one other core.field at there apart

-- ---- many are

pub openings_leave_other_takers : OpeningsLeaveOtherTakers
openings_leave_other_takers round pieces g [] other core there apart = refl
openings_leave_other_takers round pieces g (f ∷ fs) other core there apart =
    openings_leave_other_takers round pieces g fs other (after round pieces core (event.Open f)) there apart.1
    ∙ opening_leaves_other_takers round pieces g f other core there apart.0
