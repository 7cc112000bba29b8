-- Functions are opened side by side.
use Rattle.std.proofs.Common.{◌≡◌, ℕ, ⊎_elim, true, false, List, [], ◌∷◌, ◌++◌, length, map, Option, Some, None, refl, sym, ap, ◌∙◌, arith, subst}
use Rattle.std.specs.Prelude.{slice_get}
use Rattle.std.proofs.lemmas.Bool.{and_from, false≢true}
use Rattle.flame_rows.proofs.Lists.{slice_get-some}
use Rattle.flame_spec.specs.Accepted.{IsAccepted}
use Rattle.flame_spec.specs.Below.{is_in}
use Rattle.flame_spec.specs.Functions.{Place, functions}
use Rattle.flame_meaning.specs.RangeLaws.{Each}
use Rattle.flame_world.specs.Fields.{Field}
use Rattle.flame_world.specs.Iterations.{Round}
use Rattle.flame_events.specs.declared.events.Event.{Event}
use Rattle.flame_events.specs.declared.events.Event.TheVariants as event
use Rattle.flame_events.specs.CoreLaws.{EventsLeadTo}
use Rattle.flame_events.specs.CoreStates.{Work, Open, Core, status_of, opening_core}
use Rattle.flame_events.specs.EventSteps.{opened, after}
use Rattle.flame_events.specs.Histories.{Leads}
use Rattle.flame_events.specs.LegalEvents.{is_legal}
use Rattle.flame_events.proofs.Growing.{histories_grow}
use Rattle.flame_events.proofs.Serial.{is_in-self, is_in-later, is_in-cases}
use Rattle.flame_events.proofs.Sound.{can_open}
use Rattle.flame_events.proofs.Weights.{Rows}
use Rattle.flame_orders.specs.OneBeginning.{HaveOneBeginning}
use Rattle.flame_orders.specs.WholeFunctions.{agents_in_pieces}
use Rattle.flame_orders.proofs.FunctionRuns.{opened_pieces_are_takers}
use Rattle.flame_orders.proofs.Lasting.{legality_lasts}
use Rattle.flame_orders.proofs.OpenedTakers.{opening_leaves_other_takers}
use Rattle.flame_orders.proofs.Untouched.{other_functions_stay}
use Rattle.flame_layers.specs.LayerFields.{takers_at, takers_in, left_at, left_by_takers, left_by_all, all_takers}
use Rattle.flame_layers.proofs.WantedFunctions.{AreApart, apart_else, out_else}

-- ---- events lead on

-- in an iteration of an accepted source that began with these bags, events led to the first core, and others to the second one
pub record HaveCome (round : Round) (bags : List Rows) (start core : Core) : Type 0 where
  pub accepted : IsAccepted round.source
  pub has_bags : length bags ≡ length round.source.model.agents
  pub events : List Event
  pub leads : Leads round 1 (opening_core round.source.model bags) events start
  pub other_events : List Event
  pub other_leads : Leads round 1 (opening_core round.source.model bags) other_events core

pub one_beginning : (round : Round) (bags : List Rows) (start core : Core) → HaveCome round bags start core → HaveOneBeginning round 1 1 start core
one_beginning round bags start core both = record {
  accepted = both.accepted;
  agents = bags;
  has_bags = both.has_bags;
  some = omega arith;
  events = both.events;
  leads = both.leads;
  other_some = omega arith;
  other_events = both.other_events;
  other_leads = both.other_leads;
}

pub led_to : (round : Round) (bags : List Rows) (start core : Core) → HaveCome round bags start core → EventsLeadTo round 1 core
led_to round bags start core both = record { agents = bags; events = both.other_events; leads = both.other_leads }

pub leads_further : (round : Round) (bags : List Rows) (start core next : Core) (events : List Event) → HaveCome round bags start core → Leads round 1 core events next
    → HaveCome round bags start next
leads_further round bags start core next events both leads = record {
  accepted = both.accepted;
  has_bags = both.has_bags;
  events = both.events;
  leads = both.leads;
  other_events = both.other_events ++ events;
  other_leads = histories_grow round 1 (opening_core round.source.model bags) core next both.other_events events both.other_leads leads;
}

pub one_event : (round : Round) (core : Core) (e : Event) → is_legal round.source.model core e ≡ true → Leads round 1 core (e ∷ []) (after round 1 core e)
one_event round core e legal = record { legal = and_from (is_legal round.source.model core e) true legal refl; left = refl }

-- ---- what opening a function leaves

opened_field : (round : Round) (f : ℕ) (place : Option Place) (core : Core) → (opened round 1 f place core).field ≡ left_at place round f core.field
opened_field round f None core = refl
opened_field round f (Some place) core = refl

opened_marks : (round : Round) (f : ℕ) (place : Option Place) (core : Core) → (opened round 1 f place core).frozen ≡ core.frozen
opened_marks round f None core = refl
opened_marks round f (Some place) core = refl

takers_when_opened : (round : Round) (f g : ℕ) (core : Core) → (g ≡ f → ⊥) → takers_in round g (after round 1 core (event.Open f)).field ≡ takers_in round g core.field
takers_when_opened round f g core apart = by (slice_get (functions round.source.model) g) refl
  where
    by : (o : Option Place) → slice_get (functions round.source.model) g ≡ o
        → takers_at o round g (after round 1 core (event.Open f)).field ≡ takers_at o round g core.field
    by None at = refl
    by (Some place) at = opening_leaves_other_takers round 1 g f place core at (λ same. apart (sym same))

-- a function has the same takers when those of another one left their state
takers_stay : (round : Round) (f g : ℕ) (field : Field) → (g ≡ f → ⊥) → takers_in round g (left_by_takers round f field) ≡ takers_in round g field
takers_stay round f g field apart =
    let core : Core = record { statuses = []; field = field; frozen = [] } in
    ap (takers_in round g) (sym (opened_field round f (slice_get (functions round.source.model) f) core)) ∙ takers_when_opened round f g core apart

pub all_takers_are : (round : Round) (agents : ℕ → Rows) (fs : List ℕ) (field : Field) → AreApart fs
    → ((g : ℕ) → is_in g fs ≡ true → takers_in round g field ≡ agents g) → all_takers round fs field ≡ map agents fs
all_takers_are round agents [] field apart are = refl
all_takers_are round agents (f ∷ fs) field apart are =
    let own = are f (is_in-self f fs) in
    let rest = all_takers_are round agents fs (left_by_takers round f field) apart.1
    (λ g within. takers_stay round f g field (apart_else f g fs apart.0 within) ∙ are g (is_in-later g f fs within)) in
    λ i. own i ∷ rest i

-- ---- functions are opened, one after another

-- the function is open with these agents, of which none ran
pub record IsBegun (agents : Rows) (core : Core) (f : ℕ) : Type 0 where
  pub works : List Work
  pub is : status_of core f ≡ Open works
  pub none : Each (λ (work : Work). work.ran ≡ 0) works
  pub whole : agents_in_pieces works ≡ agents

-- in the second core these functions were opened, which brought the third one
pub record AreOpened (round : Round) (bags : List Rows) (start core : Core) (fs : List ℕ) (next : Core) : Type 0 where
  pub both : HaveCome round bags start next
  pub field : next.field ≡ left_by_all round fs core.field
  pub marks : next.frozen ≡ core.frozen
  pub others : (g : ℕ) → is_in g fs ≡ false → status_of next g ≡ status_of core g
  pub begun : (g : ℕ) → is_in g fs ≡ true → IsBegun (takers_in round g core.field) next g

begun_now : (round : Round) (core : Core) (f : ℕ) → EventsLeadTo round 1 core → is_legal round.source.model core (event.Open f) ≡ true
    → IsBegun (takers_in round f core.field) (after round 1 core (event.Open f)) f
begun_now round core f led legal =
    let place = slice_get-some (functions round.source.model) f (can_open round.source.model core f legal).below in
    let all = opened_pieces_are_takers round 1 f place.0 core led (omega arith) place.1 legal in
    record { works = _; is = all.0; none = all.1; whole = all.2 ∙ ap (λ o. takers_at o round f core.field) (sym place.1) }

pub begun_still : (agents others : Rows) (core next : Core) (f : ℕ) → status_of next f ≡ status_of core f → agents ≡ others → IsBegun agents core f → IsBegun others next f
begun_still agents others core next f same are begun = record { works = begun.works; is = same ∙ begun.is; none = begun.none; whole = begun.whole ∙ are }

pub open_all : (round : Round) (bags : List Rows) (start core : Core) (fs : List ℕ) → HaveCome round bags start core → AreApart fs
    → ((f : ℕ) → is_in f fs ≡ true → is_legal round.source.model core (event.Open f) ≡ true)
    → (next : Core) × AreOpened round bags start core fs next
open_all round bags start core [] both apart may = (
  core,
  record { both = both; field = refl; marks = refl; others = λ g out. refl; begun = λ g within. absurd (false≢true within) },
)
open_all round bags start core (f ∷ fs) both apart may =
    let led = led_to round bags start core both in
    let legal = may f (is_in-self f fs) in
    let next : Core = after round 1 core (event.Open f) in
    let place = slice_get (functions round.source.model) f in
    let rest = open_all round bags start next fs (leads_further round bags start core next (event.Open f ∷ []) both (one_event round core (event.Open f) legal)) apart.1
    (λ g within.
    legality_lasts round 1 core (event.Open f) (event.Open g) led legal (may g (is_in-later g f fs within))
    (λ same. apart_else f g fs apart.0 within cc)) in (
      rest.0,
      record {
        both = rest.1.both;
        field = rest.1.field ∙ ap (left_by_all round fs) (opened_field round f place core);
        marks = rest.1.marks ∙ opened_marks round f place core;
        others = λ g out.
            let parts = out_else f g fs out in
            rest.1.others g parts.1 ∙ other_functions_stay round 1 g (event.Open f) core (λ same. parts.0 cc);
        begun = λ g within. ⊎_elim
            (λ (same : g ≡ f).
            subst (λ h. IsBegun (takers_in round h core.field) rest.0 h) (sym same)
            (begun_still (takers_in round f core.field) (takers_in round f core.field) next rest.0 f (rest.1.others f apart.0) refl (begun_now round core f led legal)))
            (λ (later : is_in g fs ≡ true).
            begun_still (takers_in round g next.field) (takers_in round g core.field) rest.0 rest.0 g refl
            (takers_when_opened round f g core (apart_else f g fs apart.0 later)) (rest.1.begun g later))
            (is_in-cases g f fs within);
      },
    )
