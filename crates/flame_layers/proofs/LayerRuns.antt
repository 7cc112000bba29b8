-- Functions that are open run side by side.
use Rattle.std.proofs.Common.{◌≡◌, ℕ, ◌<◌, ⊎_elim, Bool, true, false, List, [], ◌∷◌, map, Some, refl, sym, ap, ◌∙◌, subst, get_or-set_same, get_or-set_other}
use Rattle.std.specs.Prelude.{ℤ, slice_index_or}
use Rattle.std.specs.List.{list_all}
use Rattle.std.proofs.lemmas.Bool.{false≢true}
use Rattle.flame_rows.specs.Bags.{merge}
use Rattle.flame_rows.proofs.Lists.{slice_get-some}
use Rattle.flame_spec.specs.declared.outcomes.Outcome.{Outcome}
use Rattle.flame_spec.specs.Before.{function_count}
use Rattle.flame_spec.specs.Below.{is_in}
use Rattle.flame_spec.specs.Functions.{Place, functions}
use Rattle.flame_spec.specs.States.{state_place}
use Rattle.flame_spec_laws.specs.NameLaws.{MessagesDiffer}
use Rattle.flame_world.specs.AgentRuns.{survivors, sent_from, born_from, least_fault, messages_of, births_of}
use Rattle.flame_world.specs.Fields.{Field, changed_pool, joined}
use Rattle.flame_world.specs.Iterations.{Round, outcome_in}
use Rattle.flame_events.specs.CoreStates.{Waiting, Core, status_of}
use Rattle.flame_events.specs.EventSteps.{done_with}
use Rattle.flame_events.specs.LegalEvents.{inputs_of}
use Rattle.flame_events.proofs.KeptCores.{open_there}
use Rattle.flame_events.proofs.Serial.{is_in-self, is_in-later, is_in-cases}
use Rattle.flame_events.proofs.Weights.{Rows}
use Rattle.flame_orders.specs.WholeFunctions.{function_events, agents_in_pieces, left_by, done_by}
use Rattle.flame_orders.proofs.FunctionRuns.{whole_functions_run}
use Rattle.flame_orders.proofs.OneBeginnings.{outcomes_agree}
use Rattle.flame_layers.specs.LayerFields.{brought_at, brought_by, brought_by_all}
use Rattle.flame_layers.proofs.WantedFunctions.{AreApart, apart_else, out_else}
use Rattle.flame_layers.proofs.OpenedLayers.{HaveCome, one_beginning, led_to, leads_further, IsBegun, begun_still}

-- ---- one function runs

brought_same : (round : Round) (f : ℕ) (place : Place) (read : Field) (agents : Rows) (field : Field) → outcome_in round f field ≡ outcome_in round f read
    → left_by round f place agents field ≡ brought_at (Some place) round read f agents field
brought_same round f place read agents field same =
    let left : (List ℤ → Outcome) → Field = λ run. record {
      pools =
          changed_pool place.agent (state_place place.type place.function.next)
          (λ pool. merge pool (survivors run agents)) field.pools;
      born = joined (births_of (born_from run agents)) field.born;
      boards = joined (messages_of (sent_from run agents)) field.boards;
    } in
    ap left same

-- in the second core the function ran with these agents over the boards that are read, which brought the third one
record HasRun (round : Round) (bags : List Rows) (start core : Core) (read : Field) (agents : Rows) (f : ℕ) (next : Core) : Type 0 where
  pub both : HaveCome round bags start next
  pub field : next.field ≡ brought_by round read f agents core.field
  pub marks : next.frozen ≡ core.frozen
  pub others : (g : ℕ) → (g ≡ f → ⊥) → status_of next g ≡ status_of core g
  pub done : status_of next f ≡ done_with (least_fault round.iteration f (outcome_in round f read) agents)

module _ (differ : MessagesDiffer) (round : Round) (bags : List Rows) (start : Core) where
  -- the boards of its inputs are frozen
  abbrev IsFed : List Bool → ℕ → Type 0
  IsFed marks f = list_all (λ m. slice_index_or marks m false) (inputs_of round.source.model f) ≡ true

  run_one : (core : Core) (agents : Rows) (f : ℕ) → HaveCome round bags start core → f < function_count round.source.model
      → core.frozen ≡ start.frozen → IsFed start.frozen f → IsBegun agents core f
      → (next : Core) × HasRun round bags start core start.field agents f next
  run_one core agents f both below marks fed begun =
      let place = slice_get-some (functions round.source.model) f below in
      let works = begun.works in
      let rows = agents_in_pieces works in
      let read = start.field in
      let now_fed : IsFed core.frozen f = subst (λ l. IsFed l f) (sym marks) fed in
      let same : outcome_in round f core.field ≡ outcome_in round f read = λ i memory. sym (outcomes_agree differ round 1 1 f memory start core (one_beginning round bags start core both) fed now_fed) i in
      let next : Core = done_by round f rows (left_by round f place.0 rows core.field) core in
      let leads = whole_functions_run differ round 1 f place.0 works core both.accepted (led_to round bags start core both) place.1 begun.is begun.none in (
        next,
        record {
          both = leads_further round bags start core next (function_events round.source.model f works) both leads;
          field =
              brought_same round f place.0 read rows core.field same
              ∙ ap (λ o. brought_at o round read f rows core.field) (sym place.1)
              ∙ ap (λ l. brought_by round read f l core.field) begun.whole;
          marks = refl;
          others = λ g else. get_or-set_other core.statuses f g _ Waiting else;
          done =
              get_or-set_same core.statuses f _ Waiting (open_there core f works begun.is)
              ∙ ap (λ run. done_with (least_fault round.iteration f run rows)) same
              ∙ ap (λ l. done_with (least_fault round.iteration f (outcome_in round f read) l)) begun.whole;
        },
      )

  -- ---- functions run, one after another

  -- in the second core these functions ran with these agents over the boards of the start, which brought the third one
  pub record HaveRun (agents : ℕ → Rows) (core : Core) (fs : List ℕ) (next : Core) : Type 0 where
    pub both : HaveCome round bags start next
    pub field : next.field ≡ brought_by_all round start.field fs (map agents fs) core.field
    pub marks : next.frozen ≡ start.frozen
    pub others : (g : ℕ) → is_in g fs ≡ false → status_of next g ≡ status_of core g
    pub done : (g : ℕ) → is_in g fs ≡ true → status_of next g ≡ done_with (least_fault round.iteration g (outcome_in round g start.field) (agents g))

  pub run_all : (agents : ℕ → Rows) (core : Core) (fs : List ℕ) → HaveCome round bags start core → AreApart fs → core.frozen ≡ start.frozen
      → ((f : ℕ) → is_in f fs ≡ true → (f < function_count round.source.model) × IsFed start.frozen f × IsBegun (agents f) core f)
      → (next : Core) × HaveRun agents core fs next
  run_all agents core [] both apart marks may = (
    core,
    record { both = both; field = refl; marks = marks; others = λ g out. refl; done = λ g within. absurd (false≢true within) },
  )
  run_all agents core (f ∷ fs) both apart marks may =
      let own = may f (is_in-self f fs) in
      let one = run_one core (agents f) f both own.0 marks own.1 own.2 in
      let next = one.0 in
      let rest = run_all agents next fs one.1.both apart.1 (one.1.marks ∙ marks)
      (λ g within.
      let later = may g (is_in-later g f fs within) in
      (later.0, later.1, begun_still (agents g) (agents g) core next g (one.1.others g (apart_else f g fs apart.0 within)) refl later.2)) in (
        rest.0,
        record {
          both = rest.1.both;
          field = rest.1.field ∙ ap (brought_by_all round start.field fs (map agents fs)) one.1.field;
          marks = rest.1.marks;
          others = λ g out. let parts = out_else f g fs out in rest.1.others g parts.1 ∙ one.1.others g parts.0;
          done = λ g within. ⊎_elim
              (λ (same : g ≡ f).
              subst (λ h. status_of rest.0 h ≡ done_with (least_fault round.iteration h (outcome_in round h start.field) (agents h))) (sym same)
              (rest.1.others f apart.0 ∙ one.1.done))
              (λ (later : is_in g fs ≡ true). rest.1.done g later)
              (is_in-cases g f fs within);
        },
      )
