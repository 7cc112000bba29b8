-- What is left of the events of functions and boards when one came.
use Rattle.std.proofs.Common.{◌≡◌, ℕ, ◌<◌, ◌⊎◌, ⊎_elim, true, false, List, [], ◌∷◌, ◌++◌, refl, sym, ap, ◌∙◌}
use Rattle.std.specs.Prelude.{nat_lt}
use Rattle.std.proofs.lemmas.Bool.{and_parts, ltb-true, true≢false, false≢true}
use Rattle.flame_spec.specs.declared.models.Model.{Model}
use Rattle.flame_spec.specs.Before.{before, function_count}
use Rattle.flame_spec.specs.Below.{is_in}
use Rattle.flame_spec.proofs.FirstBelow.{is_in-all_below, is_in_self, is_in_stays}
use Rattle.flame_meaning.specs.RangeLaws.{Each}
use Rattle.flame_world.specs.Iterations.{Round}
use Rattle.flame_events.specs.declared.events.Event.{Event}
use Rattle.flame_events.specs.declared.events.Event.TheVariants as event
use Rattle.flame_events.specs.CoreStates.{works_of, Core, status_of}
use Rattle.flame_events.specs.CoreLaws.{EventsLeadTo}
use Rattle.flame_events.specs.EventSteps.{after, replay, are_legal}
use Rattle.flame_events.specs.LegalEvents.{predecessors, inputs_of, outputs_of, is_legal}
use Rattle.flame_events.proofs.Serial.{is_in-cases}
use Rattle.flame_events.proofs.Sound.{can_open}
use Rattle.flame_orders.specs.NewlyLegal.{AllowedByOpen, AllowedByAgent, AllowedByShut, AllowedByFreeze}
use Rattle.flame_orders.proofs.Lasting.{led_on}
use Rattle.flame_orders.proofs.Newly.{newly_legal_is_allowed}
use Rattle.flame_flow.specs.QuietCores.{is_left, AreLeft, IsQuiet}

-- ---- what is left

-- where nothing else is, no event of a function or a board is legal
pub left_quiet : (model : Model) (core : Core) → AreLeft model [] [] [] core → IsQuiet model core
left_quiet model core left (event.Open f) legal = absurd (false≢true (left (event.Open f) legal))
left_quiet model core left (event.Agent f k) legal = refl
left_quiet model core left (event.HandIn f k m) legal = refl
left_quiet model core left (event.Shut f) legal = absurd (false≢true (left (event.Shut f) legal))
left_quiet model core left (event.Freeze m) legal = absurd (false≢true (left (event.Freeze m) legal))

pub quiet_left : (model : Model) (core : Core) → IsQuiet model core → AreLeft model [] [] [] core
quiet_left model core quiet (event.Open f) legal = absurd (false≢true (quiet (event.Open f) legal))
quiet_left model core quiet (event.Agent f k) legal = refl
quiet_left model core quiet (event.HandIn f k m) legal = refl
quiet_left model core quiet (event.Shut f) legal = absurd (false≢true (quiet (event.Shut f) legal))
quiet_left model core quiet (event.Freeze m) legal = absurd (false≢true (quiet (event.Freeze m) legal))

-- what is left may be more
pub left_more : (model : Model) (core : Core) (over messages waiting over_too messages_too waiting_too : List ℕ)
    → ((n : ℕ) → is_in n over ≡ true → is_in n over_too ≡ true)
    → ((n : ℕ) → is_in n messages ≡ true → is_in n messages_too ≡ true)
    → ((n : ℕ) → is_in n waiting ≡ true → is_in n waiting_too ≡ true)
    → AreLeft model over messages waiting core → AreLeft model over_too messages_too waiting_too core
left_more model core over messages waiting over_too messages_too waiting_too o m w left (event.Open f) legal = w f (left (event.Open f) legal)
left_more model core over messages waiting over_too messages_too waiting_too o m w left (event.Agent f k) legal = refl
left_more model core over messages waiting over_too messages_too waiting_too o m w left (event.HandIn f k n) legal = refl
left_more model core over messages waiting over_too messages_too waiting_too o m w left (event.Shut f) legal = o f (left (event.Shut f) legal)
left_more model core over messages waiting over_too messages_too waiting_too o m w left (event.Freeze n) legal = m n (left (event.Freeze n) legal)

-- one that is not the first is another
in_others : (n first : ℕ) (numbers : List ℕ) → is_in n (first ∷ numbers) ≡ true → (n ≡ first → ⊥) → is_in n numbers ≡ true
in_others n first numbers within apart = ⊎_elim (λ (same : n ≡ first). absurd (apart same)) (λ (later : is_in n numbers ≡ true). later) (is_in-cases n first numbers within)

-- an event that is left but for this one, where this one is not legal, or came
module _ (over messages waiting : List ℕ) where
  but_shut : (f : ℕ) (e : Event) → is_left (f ∷ over) messages waiting e ≡ true → (e ≡ event.Shut f → ⊥) → is_left over messages waiting e ≡ true
  but_shut f (event.Open g) left apart = left
  but_shut f (event.Agent g k) left apart = refl
  but_shut f (event.HandIn g k m) left apart = refl
  but_shut f (event.Shut g) left apart = in_others g f over left (λ same. apart (ap event.Shut same))
  but_shut f (event.Freeze m) left apart = left

  but_freeze : (m : ℕ) (e : Event) → is_left over (m ∷ messages) waiting e ≡ true → (e ≡ event.Freeze m → ⊥) → is_left over messages waiting e ≡ true
  but_freeze m (event.Open g) left apart = left
  but_freeze m (event.Agent g k) left apart = refl
  but_freeze m (event.HandIn g k n) left apart = refl
  but_freeze m (event.Shut g) left apart = left
  but_freeze m (event.Freeze n) left apart = in_others n m messages left (λ same. apart (ap event.Freeze same))

  but_open : (f : ℕ) (e : Event) → is_left over messages (f ∷ waiting) e ≡ true → (e ≡ event.Open f → ⊥) → is_left over messages waiting e ≡ true
  but_open f (event.Open g) left apart = in_others g f waiting left (λ same. apart (ap event.Open same))
  but_open f (event.Agent g k) left apart = refl
  but_open f (event.HandIn g k m) left apart = refl
  but_open f (event.Shut g) left apart = left
  but_open f (event.Freeze m) left apart = left

-- an event that is not legal is not left
not_legal : (model : Model) (core : Core) (e x : Event) → is_legal model core e ≡ false → is_legal model core x ≡ true → x ≡ e → ⊥
not_legal model core e x none legal same = true≢false (sym legal ∙ ap (is_legal model core) same ∙ none)

pub left_no_shut : (model : Model) (core : Core) (f : ℕ) (over messages waiting : List ℕ) → is_legal model core (event.Shut f) ≡ false
    → AreLeft model (f ∷ over) messages waiting core → AreLeft model over messages waiting core
left_no_shut model core f over messages waiting none left e legal =
    but_shut over messages waiting f e (left e legal) (not_legal model core (event.Shut f) e none legal)

pub left_no_freeze : (model : Model) (core : Core) (m : ℕ) (over messages waiting : List ℕ) → is_legal model core (event.Freeze m) ≡ false
    → AreLeft model over (m ∷ messages) waiting core → AreLeft model over messages waiting core
left_no_freeze model core m over messages waiting none left e legal =
    but_freeze over messages waiting m e (left e legal) (not_legal model core (event.Freeze m) e none legal)

pub left_no_open : (model : Model) (core : Core) (f : ℕ) (over messages waiting : List ℕ) → is_legal model core (event.Open f) ≡ false
    → AreLeft model over messages (f ∷ waiting) core → AreLeft model over messages waiting core
left_no_open model core f over messages waiting none left e legal =
    but_open over messages waiting f e (left e legal) (not_legal model core (event.Open f) e none legal)

-- ---- one event

-- who stands before a function, as its predecessors
pub before_of : (model : Model) (f g : ℕ) → is_in f (predecessors model g) ≡ true → (before model f g ≡ true) × (f < function_count model)
before_of model f g within =
    let both = and_parts (nat_lt f (function_count model)) (before model f g) (sym (is_in-all_below (λ other. before model other g) (function_count model) f) ∙ within) in
    (both.1, ltb-true f (function_count model) both.0)

module _ (round : Round) (pieces : ℕ) (core : Core) (led : EventsLeadTo round pieces core) where
  -- a function was shut: its outputs and those behind it are left too
  pub left_shut : (f : ℕ) (over messages waiting outs next : List ℕ) → is_legal round.source.model core (event.Shut f) ≡ true
      → ((m : ℕ) → is_in m (outputs_of round.source.model f) ≡ true → is_in m outs ≡ true)
      → ((g : ℕ) → before round.source.model f g ≡ true → is_in g next ≡ true)
      → AreLeft round.source.model (f ∷ over) [] [] core
      → AreLeft round.source.model over outs next (after round pieces core (event.Shut f))
  left_shut f over messages waiting outs next legal known behind left e may = ⊎_elim
      (λ (old : (is_legal round.source.model core e ≡ true) × ¬ (e ≡ event.Shut f)).
      more e (but_shut over [] [] f e (left e old.0) old.1))
      (λ (allowed : AllowedByShut round.source.model (after round pieces core (event.Shut f)) f e). ⊎_elim
      (λ (opens : (other : ℕ) × (e ≡ event.Open other) × (is_in f (predecessors round.source.model other) ≡ true)).
      ap (is_left over outs next) opens.1 ∙ behind opens.0 (before_of round.source.model f opens.0 opens.2).0)
      (λ (freezes : (message : ℕ) × (e ≡ event.Freeze message) × (is_in message (outputs_of round.source.model f) ≡ true)).
      ap (is_left over outs next) freezes.1 ∙ known freezes.0 freezes.2)
      allowed.1)
      (newly_legal_is_allowed round pieces core (event.Shut f) e led legal may)
    where
      more : (e : Event) → is_left over [] [] e ≡ true → is_left over outs next e ≡ true
      more (event.Open g) is = absurd (false≢true is)
      more (event.Agent g k) is = refl
      more (event.HandIn g k m) is = refl
      more (event.Shut g) is = is
      more (event.Freeze m) is = absurd (false≢true is)

  -- a board was frozen, all readers of which are left
  pub left_freeze : (m : ℕ) (over messages waiting : List ℕ) → is_legal round.source.model core (event.Freeze m) ≡ true
      → ((g : ℕ) → g < function_count round.source.model → is_in m (inputs_of round.source.model g) ≡ true → is_in g waiting ≡ true)
      → AreLeft round.source.model over (m ∷ messages) waiting core
      → AreLeft round.source.model over messages waiting (after round pieces core (event.Freeze m))
  left_freeze m over messages waiting legal readers left e may = ⊎_elim
      (λ (old : (is_legal round.source.model core e ≡ true) × ¬ (e ≡ event.Freeze m)).
      but_freeze over messages waiting m e (left e old.0) old.1)
      (λ (allowed : AllowedByFreeze round.source.model m e).
      let opens : is_legal round.source.model (after round pieces core (event.Freeze m)) (event.Open allowed.0) ≡ true =
      ap (is_legal round.source.model (after round pieces core (event.Freeze m))) (sym allowed.1) ∙ may in
      ap (is_left over messages waiting) allowed.1
      ∙ readers allowed.0 (can_open round.source.model (after round pieces core (event.Freeze m)) allowed.0 opens).below allowed.2)
      (newly_legal_is_allowed round pieces core (event.Freeze m) e led legal may)

  -- a function was opened, which has pieces
  pub left_open : (f : ℕ) (over messages waiting : List ℕ) → is_legal round.source.model core (event.Open f) ≡ true
      → (works_of (status_of (after round pieces core (event.Open f)) f) ≡ [] → ⊥)
      → AreLeft round.source.model over messages (f ∷ waiting) core
      → AreLeft round.source.model over messages waiting (after round pieces core (event.Open f))
  left_open f over messages waiting legal some left e may = ⊎_elim
      (λ (old : (is_legal round.source.model core e ≡ true) × ¬ (e ≡ event.Open f)). but_open over messages waiting f e (left e old.0) old.1)
      (λ (allowed : AllowedByOpen (after round pieces core (event.Open f)) f e). ⊎_elim
      (λ (runs : (piece : ℕ) × (e ≡ event.Agent f piece)). ap (is_left over messages waiting) runs.1)
      (λ (shuts : (e ≡ event.Shut f) × (works_of (status_of (after round pieces core (event.Open f)) f) ≡ [])). absurd (some shuts.1))
      allowed)
      (newly_legal_is_allowed round pieces core (event.Open f) e led legal may)

  -- or has none
  pub left_empty : (f : ℕ) (over messages waiting : List ℕ) → is_legal round.source.model core (event.Open f) ≡ true
      → AreLeft round.source.model over messages (f ∷ waiting) core
      → AreLeft round.source.model (over ++ f ∷ []) messages waiting (after round pieces core (event.Open f))
  left_empty f over messages waiting legal left e may = ⊎_elim
      (λ (old : (is_legal round.source.model core e ≡ true) × ¬ (e ≡ event.Open f)). more e (but_open over messages waiting f e (left e old.0) old.1))
      (λ (allowed : AllowedByOpen (after round pieces core (event.Open f)) f e). ⊎_elim
      (λ (runs : (piece : ℕ) × (e ≡ event.Agent f piece)). ap (is_left (over ++ f ∷ []) messages waiting) runs.1)
      (λ (shuts : (e ≡ event.Shut f) × (works_of (status_of (after round pieces core (event.Open f)) f) ≡ [])).
      ap (is_left (over ++ f ∷ []) messages waiting) shuts.0 ∙ is_in_self f over)
      allowed)
      (newly_legal_is_allowed round pieces core (event.Open f) e led legal may)
    where
      more : (e : Event) → is_left over messages waiting e ≡ true → is_left (over ++ f ∷ []) messages waiting e ≡ true
      more (event.Open g) is = is
      more (event.Agent g k) is = refl
      more (event.HandIn g k m) is = refl
      more (event.Shut g) is = is_in_stays g f over is
      more (event.Freeze m) is = is

  -- an agent of a piece ran, or it handed messages in: its function may be over
  pub left_agent : (f k : ℕ) (over messages waiting : List ℕ) → is_legal round.source.model core (event.Agent f k) ≡ true
      → is_in f over ≡ true
      → AreLeft round.source.model over messages waiting core
      → AreLeft round.source.model over messages waiting (after round pieces core (event.Agent f k))
  left_agent f k over messages waiting legal known left e may = ⊎_elim
      (λ (old : (is_legal round.source.model core e ≡ true) × ¬ (e ≡ event.Agent f k)). left e old.0)
      (λ (allowed : AllowedByAgent round.source.model f k e). ⊎_elim
      (λ (runs : e ≡ event.Agent f k). ap (is_left over messages waiting) runs)
      (λ (others : ((message : ℕ) × (e ≡ event.HandIn f k message) × (is_in message (outputs_of round.source.model f) ≡ true))
      ⊎ ((e ≡ event.Shut f) × (outputs_of round.source.model f ≡ []))). ⊎_elim
      (λ (hands : (message : ℕ) × (e ≡ event.HandIn f k message) × (is_in message (outputs_of round.source.model f) ≡ true)).
      ap (is_left over messages waiting) hands.1)
      (λ (shuts : (e ≡ event.Shut f) × (outputs_of round.source.model f ≡ [])). ap (is_left over messages waiting) shuts.0 ∙ known)
      others)
      allowed)
      (newly_legal_is_allowed round pieces core (event.Agent f k) e led legal may)

  pub left_hand_in : (f k m : ℕ) (over messages waiting : List ℕ) → is_legal round.source.model core (event.HandIn f k m) ≡ true
      → is_in f over ≡ true
      → AreLeft round.source.model over messages waiting core
      → AreLeft round.source.model over messages waiting (after round pieces core (event.HandIn f k m))
  left_hand_in f k m over messages waiting legal known left e may = ⊎_elim
      (λ (old : (is_legal round.source.model core e ≡ true) × ¬ (e ≡ event.HandIn f k m)). left e old.0)
      (λ (shuts : e ≡ event.Shut f). ap (is_left over messages waiting) shuts ∙ known)
      (newly_legal_is_allowed round pieces core (event.HandIn f k m) e led legal may)

-- ---- many events of pieces

-- the event is one of a piece of this function
abbrev pub IsOfPieceOf : ℕ → Event → Type 0
IsOfPieceOf f (event.Open g) = ⊥
IsOfPieceOf f (event.Agent g k) = g ≡ f
IsOfPieceOf f (event.HandIn g k m) = g ≡ f
IsOfPieceOf f (event.Shut g) = ⊥
IsOfPieceOf f (event.Freeze m) = ⊥

pub left_pieces : (round : Round) (pieces : ℕ) (core : Core) (events : List Event) (f : ℕ) (over messages waiting : List ℕ)
    → EventsLeadTo round pieces core → are_legal round pieces core events ≡ true → Each (IsOfPieceOf f) events → is_in f over ≡ true
    → AreLeft round.source.model over messages waiting core
    → AreLeft round.source.model over messages waiting (replay round pieces core events)
left_pieces round pieces core [] f over messages waiting led legal own known left = left
left_pieces round pieces core (e ∷ events) f over messages waiting led legal own known left =
    let next = after round pieces core e in
    let both = and_parts (is_legal round.source.model core e) (are_legal round pieces next events) legal in
    left_pieces round pieces next events f over messages waiting (led_on round pieces core e led both.0) both.1 own.1 known
    (one e own.0 both.0)
  where
    one : (e : Event) → IsOfPieceOf f e → is_legal round.source.model core e ≡ true → AreLeft round.source.model over messages waiting (after round pieces core e)
    one (event.Open g) own legal = absurd own
    one (event.Agent g k) own legal = left_agent round pieces core led g k over messages waiting legal (ap (λ h. is_in h over) own ∙ known) left
    one (event.HandIn g k m) own legal = left_hand_in round pieces core led g k m over messages waiting legal (ap (λ h. is_in h over) own ∙ known) left
    one (event.Shut g) own legal = absurd own
    one (event.Freeze m) own legal = absurd own
