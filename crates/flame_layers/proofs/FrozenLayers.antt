-- Each board whose writers are all shut is frozen.
use Rattle.std.proofs.Common.{◌≡◌, ℕ, zero, suc, ◌<◌, ◌≤◌, ⊎_elim, true, false, List, [], ◌∷◌, length, refl, sym, ap, ◌∙◌, arith, subst, get_or-set_same}
use Rattle.std.specs.Prelude.{not}
use Rattle.std.proofs.lemmas.Bool.{and_from, cases_Bool, cases_eq, lt-ltb, true≢false}
use Rattle.flame_world.specs.Iterations.{Round}
use Rattle.flame_events.specs.declared.events.Event.TheVariants as event
use Rattle.flame_events.specs.CoreStates.{Core, is_frozen}
use Rattle.flame_events.specs.EventSteps.{after}
use Rattle.flame_events.specs.LegalEvents.{are_shut, writers, is_legal}
use Rattle.flame_events.proofs.KeptCores.{kept_core}
use Rattle.flame_events.proofs.Weights.{Rows}
use Rattle.flame_orders.proofs.Lasting.{frozen_lasts}
use Rattle.flame_layers.proofs.OpenedLayers.{HaveCome, led_to, leads_further, one_event}

-- in the second core boards below this number were frozen, which brought the third one
pub record AreFrozen (round : Round) (bags : List Rows) (start core : Core) (n : ℕ) (next : Core) : Type 0 where
  pub both : HaveCome round bags start next
  pub statuses : next.statuses ≡ core.statuses
  pub field : next.field ≡ core.field
  pub frozen : (m : ℕ) → m < n → are_shut next (writers round.source.model m) ≡ true → is_frozen next m ≡ true

-- the next board is as it is, or is frozen
one_stays : (round : Round) (bags : List Rows) (start core next : Core) (n : ℕ) → AreFrozen round bags start core n next
    → (are_shut next (writers round.source.model n) ≡ true → is_frozen next n ≡ true) → AreFrozen round bags start core (suc n) next
one_stays round bags start core next n so_far own = record {
  both = so_far.both;
  statuses = so_far.statuses;
  field = so_far.field;
  frozen = λ m less shut. ⊎_elim
      (λ (same : m ≡ n). subst (λ k. is_frozen next k ≡ true) (sym same) (own (subst (λ k. are_shut next (writers round.source.model k) ≡ true) same shut)))
      (λ (else : m ≡ n → ⊥). so_far.frozen m (omega (arith, less, else)) shut)
      (cases_eq m n);
}

one_more : (round : Round) (bags : List Rows) (start core next : Core) (n : ℕ) → AreFrozen round bags start core n next → n < length round.source.model.messages
    → are_shut next (writers round.source.model n) ≡ true → is_frozen next n ≡ false
    → (last : Core) × AreFrozen round bags start core (suc n) last
one_more round bags start core next n so_far less shut gathers =
    let model = round.source.model in
    let legal : is_legal model next (event.Freeze n) ≡ true = and_from _ _ (and_from _ _ (lt-ltb n (length model.messages) less) (ap not gathers)) shut in
    let last : Core = after round 1 next (event.Freeze n) in
    let marks = (kept_core round 1 next (led_to round bags start next so_far.both)).marks in
    let own : is_frozen last n ≡ true = get_or-set_same next.frozen n true false (omega (arith, less, marks)) in (
      last,
      record {
        both = leads_further round bags start next last (event.Freeze n ∷ []) so_far.both (one_event round next (event.Freeze n) legal);
        statuses = so_far.statuses;
        field = so_far.field;
        frozen = λ m below written. ⊎_elim
            (λ (same : m ≡ n). subst (λ k. is_frozen last k ≡ true) (sym same) own)
            (λ (else : m ≡ n → ⊥). frozen_lasts round 1 next (event.Freeze n) m (so_far.frozen m (omega (arith, below, else)) written))
            (cases_eq m n);
      },
    )

pub freeze_all : (round : Round) (bags : List Rows) (start core : Core) (n : ℕ) → HaveCome round bags start core → n ≤ length round.source.model.messages
    → (next : Core) × AreFrozen round bags start core n next
freeze_all round bags start core zero both most = (
  core,
  record { both = both; statuses = refl; field = refl; frozen = λ m less shut. absurd (omega (arith, less)) },
)
freeze_all round bags start core (suc n) both most =
    let model = round.source.model in
    let rest = freeze_all round bags start core n both (omega (arith, most)) in
    let next = rest.0 in
    ⊎_elim
    (λ (shut : are_shut next (writers model n) ≡ true). ⊎_elim
    (λ (frozen : is_frozen next n ≡ true). (next, one_stays round bags start core next n rest.1 (λ again. frozen)))
    (λ (gathers : is_frozen next n ≡ false). one_more round bags start core next n rest.1 (omega (arith, most)) shut gathers)
    (cases_Bool (is_frozen next n)))
    (λ (open_yet : are_shut next (writers model n) ≡ false). (next, one_stays round bags start core next n rest.1 (λ shut. absurd (true≢false (sym shut ∙ open_yet)))))
    (cases_Bool (are_shut next (writers model n)))
