-- How a flow begins.
use Rattle.std.proofs.Common.{◌≡◌, ℕ, ◌<◌, true, false, List, [], length, Option, Some, None, refl, sym, ap, ◌∙◌, arith}
use Rattle.std.specs.Prelude.{ℤ, ◌&&◌, not, nat_lt, slice_get, slice_index}
use Rattle.std.proofs.lemmas.Bool.{and_parts, ltb-true, le-ltb, false≢true}
use Rattle.flame_rows.proofs.Lists.{slice_index_or-map_one}
use Rattle.flame_spec.specs.declared.models.Model.{Model}
use Rattle.flame_spec.specs.Below.{is_in}
use Rattle.flame_spec.specs.Functions.{functions}
use Rattle.flame_spec.specs.ModelOrder.{model_order, left_over}
use Rattle.flame_world.specs.Iterations.{Round}
use Rattle.flame_events.specs.declared.events.Event.TheVariants as event
use Rattle.flame_events.specs.CoreStates.{Work, Waiting, works_of, Core, status_of, work_of, is_frozen, opening_core}
use Rattle.flame_events.specs.LegalEvents.{outputs_of, writers, are_shut, may_shut}
use Rattle.flame_events.proofs.Serial.{order_is_whole}
use Rattle.flame_events.proofs.Sound.{can_open}
use Rattle.flame_flow.specs.QuietCores.{AreLeft}
use Rattle.flame_flow.specs.BegunPieces.{has_next}
use Rattle.flame_flow.specs.Goings.{AreWaysOf, Going, with_frozen, with_opened, GoesOn}
use Rattle.flame_flow.proofs.GoneOn.{Known, freeze_all, open_all}

module _ (model : Model) (agents : List (List (List ℤ))) where
  abbrev start : Core
  start = opening_core model agents

  waits : (f : ℕ) → status_of start f ≡ Waiting
  waits f = slice_index_or-map_one Waiting (functions model) f

  none_there : (f k : ℕ) (work : Work) → work_of start f k ≡ Some work → ⊥
  none_there f k work there = never (sym (ap (λ s. slice_get (works_of s) k) (waits f)) ∙ there)
    where
      never : None ≡ Some work → ⊥
      never e = cc

  -- every board may be frozen, and every function opened
  left_at_first : (messages : List ℕ) → left_over model ≡ None → ((m : ℕ) → m < length model.messages → is_in m messages ≡ true)
      → AreLeft model [] messages (model_order model) start
  left_at_first messages ordered all (event.Open f) legal = order_is_whole model ordered f (can_open model start f legal).below
  left_at_first messages ordered all (event.Agent f k) legal = refl
  left_at_first messages ordered all (event.HandIn f k m) legal = refl
  left_at_first messages ordered all (event.Shut f) legal = absurd (false≢true (ap (may_shut (outputs_of model f)) (sym (waits f)) ∙ legal))
  left_at_first messages ordered all (event.Freeze m) legal =
      let a = and_parts (nat_lt m (length model.messages) && not (is_frozen start m)) (are_shut start (writers model m)) legal in
      let b = and_parts (nat_lt m (length model.messages)) (not (is_frozen start m)) a.0 in
      all m (ltb-true m (length model.messages) b.0)

  pub goes_at_first : (begun messages : List ℕ) → left_over model ≡ None → ((m : ℕ) → m < length model.messages → is_in m messages ≡ true)
      → ((f : ℕ) → slice_index begun f ≡ 0)
      → GoesOn model begun messages (model_order model) (record { core = start; due = []; over = [] })
  goes_at_first begun messages ordered all none = record {
    left = left_at_first messages ordered all;
    whole = λ f k work there. absurd (none_there f k work there);
    marks = record {
      rising = tt;
      due_are = λ r. sym (never (slice_get (model_order model) r));
      fresh = λ f is. none f;
      ran = λ f k work there ran. absurd (none_there f k work there);
    };
  }
    where
      never : (o : Option ℕ) → has_next begun start o ≡ false
      never None = refl
      never (Some f) = ap (λ s. nat_lt (slice_index begun f) (length (works_of s))) (waits f) ∙ le-ltb (slice_index begun f) 0 (omega arith)

-- when all of them were asked
pub opens_all : (round : Round) (pieces : ℕ) (agents : List (List (List ℤ))) (ranks : List ℕ) (next : List (List ℕ)) (begun messages : List ℕ)
    → 0 < pieces → AreWaysOf round.source.model ranks next → left_over round.source.model ≡ None
    → ((m : ℕ) → m < length round.source.model.messages → is_in m messages ≡ true)
    → ((f : ℕ) → slice_index begun f ≡ 0)
    → Known round pieces (opening_core round.source.model agents)
    → GoesOn round.source.model begun [] []
    (with_opened round pieces ranks (model_order round.source.model)
    (record { core = with_frozen round pieces messages (opening_core round.source.model agents); due = []; over = [] }))
    × Known round pieces (with_opened round pieces ranks (model_order round.source.model)
    (record { core = with_frozen round pieces messages (opening_core round.source.model agents); due = []; over = [] })).core
opens_all round pieces agents ranks next begun messages some ways ordered all none known =
    let model = round.source.model in
    let start : Going = record { core = opening_core model agents; due = []; over = [] } in
    let frozen = freeze_all round pieces some begun messages (model_order model) start known (λ m g within less reads. order_is_whole model ordered g less)
    (goes_at_first model agents begun messages ordered all none) in
    let opened = open_all round pieces some ranks next ways begun (model_order model) (record start { core = with_frozen round pieces messages start.core }) frozen.known frozen.goes in
    (opened.goes, opened.known)
