-- What pieces are marked as when an event came, and that each stays whole.
use Rattle.std.proofs.Common.{◌≡◌, ℕ, ◌<◌, inl, inr, ⊎_elim, true, false, List, [], length, Option, Some, None, refl, sym, ap, ◌∙◌, arith, subst, get_or-set_same, get_or-set_other}
use Rattle.std.specs.Prelude.{◌||◌, nat_lt, slice_get, slice_set, slice_index, slice_index_or}
use Rattle.std.proofs.lemmas.Bool.{cases_Bool, cases_eq, eq-eqb, ne_eqb, ltb-true, ltb-false, lt-ltb, le-ltb, true≢false}
use Rattle.std.proofs.lemmas.List.{length-set}
use Rattle.std.proofs.lemmas.Option.{get_or_from_slice_get, slice_get_within, none-some, same_Some}
use Rattle.flame_rows.proofs.Lists.{slice_get-slice_set, slice_get-some, slice_get-slice_set_other}
use Rattle.flame_meaning.specs.RangeLaws.{Each}
use Rattle.flame_meaning.proofs.Eachs.{each_at}
use Rattle.flame_spec.specs.declared.models.Model.{Model}
use Rattle.flame_spec.specs.Before.{before, function_count}
use Rattle.flame_spec.specs.Below.{is_in}
use Rattle.flame_spec.specs.Functions.{functions}
use Rattle.flame_spec.specs.ModelOrder.{model_order, rank as rank_in}
use Rattle.flame_spec_laws.proofs.Places.{rank_is_place}
use Rattle.flame_world.specs.declared.faults.SimFault.{SimFault}
use Rattle.flame_world.specs.Iterations.{Round}
use Rattle.flame_events.specs.declared.events.Event.TheVariants as event
use Rattle.flame_events.specs.CoreStates.{Work, Status, Waiting, Open, is_waiting, works_of, fault_in, Core, status_of, work_of}
use Rattle.flame_events.specs.CoreLaws.{EventsLeadTo}
use Rattle.flame_events.specs.EventSteps.{with_work, done_with, after}
use Rattle.flame_events.specs.LegalEvents.{outputs_of, is_over, is_legal}
use Rattle.flame_events.proofs.CoreWidths.{status_below}
use Rattle.flame_events.proofs.Sound.{can_open, waiting_is}
use Rattle.flame_events.proofs.Legality.{done_waits, may_shut_is}
use Rattle.flame_events.proofs.KeptCores.{KeptWork, kept_core, open_there}
use Rattle.flame_orders.proofs.Untouched.{other_functions_stay}
use Rattle.flame_orders.proofs.Lasting.{over_at, none_left}
use Rattle.flame_orders.proofs.FunctionRuns.{opened_pieces_are_takers}
use Rattle.flame_flow.specs.QuietCores.{ArePiecesWhole}
use Rattle.flame_flow.specs.BegunPieces.{has_next, is_due, with_number, AreMarksOf}
use Rattle.flame_flow.proofs.Lists.{in_with_number, rising_with}

-- ---- ranks

-- a function stands at one rank
pub one_rank : (model : Model) (r s f : ℕ) → slice_get (model_order model) r ≡ Some f → slice_get (model_order model) s ≡ Some f → r ≡ s
one_rank model r s f at other =
    let n = function_count model in
    sym (rank_is_place n (before model) r (slice_get_within (model_order model) r f at))
    ∙ ap (rank_in n (before model)) (get_or_from_slice_get (model_order model) r f 0 at ∙ sym (get_or_from_slice_get (model_order model) s f 0 other))
    ∙ rank_is_place n (before model) s (slice_get_within (model_order model) s f other)

-- ---- whole pieces

module _ (round : Round) (pieces : ℕ) (core : Core) where
  -- what is seen of a function by its status stays, where the event is one of another function
  opened_apart : (f g : ℕ) → (g ≡ f → ⊥) → status_of (after round pieces core (event.Open f)) g ≡ status_of core g
  opened_apart f g apart = other_functions_stay round pieces g (event.Open f) core (λ (is : Some f ≡ Some g). let same : g ≡ f = cc in apart same)

  shut_apart : (f g : ℕ) → (g ≡ f → ⊥) → status_of (after round pieces core (event.Shut f)) g ≡ status_of core g
  shut_apart f g apart = other_functions_stay round pieces g (event.Shut f) core (λ (is : Some f ≡ Some g). let same : g ≡ f = cc in apart same)

  module _ (some : 0 < pieces) (led : EventsLeadTo round pieces core) where
    -- the function was opened
    record Opened (f : ℕ) : Type 0 where
      pub waits : is_waiting (status_of core f) ≡ true
      pub opens : status_of (after round pieces core (event.Open f)) f ≡ Open (works_of (status_of (after round pieces core (event.Open f)) f))
      pub unrun : Each (λ (work : Work). work.ran ≡ 0) (works_of (status_of (after round pieces core (event.Open f)) f))

    opened : (f : ℕ) → is_legal round.source.model core (event.Open f) ≡ true → Opened f
    opened f legal =
        let can = can_open round.source.model core f legal in
        let there = slice_get-some (functions round.source.model) f can.below in
        let takers = opened_pieces_are_takers round pieces f there.0 core led some there.1 legal in
        record { waits = can.waits; opens = takers.0; unrun = takers.1 }

    pub whole_open : (f : ℕ) → is_legal round.source.model core (event.Open f) ≡ true → ArePiecesWhole round.source.model core
        → ArePiecesWhole round.source.model (after round pieces core (event.Open f))
    whole_open f legal whole g k work there = ⊎_elim
        (λ (same : g ≡ f). inl (each_at (λ (work : Work). work.ran ≡ 0) (works_of (status_of (after round pieces core (event.Open f)) f)) k work (opened f legal).unrun (ap (λ h. work_of (after round pieces core (event.Open f)) h k) (sym same) ∙ there)))
        (λ (apart : g ≡ f → ⊥). whole g k work (ap (λ s. slice_get (works_of s) k) (sym (opened_apart f g apart)) ∙ there))
        (cases_eq g f)

    -- the function of this rank was opened, and begun ones are marked
    module _ (begun due : List ℕ) (f rank : ℕ) (legal : is_legal round.source.model core (event.Open f) ≡ true)
        (at : slice_get (model_order round.source.model) rank ≡ Some f) (marks : AreMarksOf round.source.model begun due core) where
      abbrev begins : Core
      begins = after round pieces core (event.Open f)

      unbegun : slice_index begun f ≡ 0
      unbegun = marks.fresh f (opened f legal).waits

      was_none : has_next begun core (Some f) ≡ false
      was_none =
          ap (λ s. nat_lt (slice_index begun f) (length (works_of s))) (waiting_is (status_of core f) (opened f legal).waits)
          ∙ le-ltb (slice_index begun f) 0 (omega arith)

      still_fresh : (g : ℕ) → is_waiting (status_of begins g) ≡ true → slice_index begun g ≡ 0
      still_fresh g waits = ⊎_elim
          (λ (same : g ≡ f). ap (slice_index begun) same ∙ unbegun)
          (λ (apart : g ≡ f → ⊥). marks.fresh g (ap is_waiting (sym (opened_apart f g apart)) ∙ waits))
          (cases_eq g f)

      still_ran : (g k : ℕ) (work : Work) → work_of begins g k ≡ Some work → 0 < work.ran → k < slice_index begun g
      still_ran g k work there ran = ⊎_elim
          (λ (same : g ≡ f).
          let none = each_at (λ (work : Work). work.ran ≡ 0) (works_of (status_of begins f)) k work (opened f legal).unrun (ap (λ h. work_of begins h k) (sym same) ∙ there) in
          absurd (omega arith))
          (λ (apart : g ≡ f → ⊥). marks.ran g k work (ap (λ s. slice_get (works_of s) k) (sym (opened_apart f g apart)) ∙ there) ran)
          (cases_eq g f)

      -- at another rank
      else_due : (r : ℕ) → (r ≡ rank → ⊥) → is_due round.source.model begun begins r ≡ is_due round.source.model begun core r
      else_due r apart = go (slice_get (model_order round.source.model) r) refl
        where
          go : (o : Option ℕ) → slice_get (model_order round.source.model) r ≡ o → has_next begun begins o ≡ has_next begun core o
          go None is = refl
          go (Some g) is =
              ap (λ s. nat_lt (slice_index begun g) (length (works_of s)))
              (opened_apart f g (λ same. apart (one_rank round.source.model r rank f (is ∙ ap Some same) at)))

      -- without a piece nothing is to be begun
      pub marks_empty : works_of (status_of begins f) ≡ [] → AreMarksOf round.source.model begun due begins
      marks_empty empty = record {
        rising = marks.rising;
        due_are = λ r. marks.due_are r ∙ ⊎_elim
            (λ (same : r ≡ rank).
            ap (has_next begun core) (ap (slice_get (model_order round.source.model)) same ∙ at)
            ∙ was_none
            ∙ sym (le-ltb (slice_index begun f) 0 (omega arith))
            ∙ ap (λ (works : List Work). nat_lt (slice_index begun f) (length works)) (sym empty)
            ∙ ap (has_next begun begins) (sym (ap (slice_get (model_order round.source.model)) same ∙ at)))
            (λ (apart : r ≡ rank → ⊥). sym (else_due r apart))
            (cases_eq r rank);
        fresh = still_fresh;
        ran = still_ran;
      }

      -- else all of its pieces are
      pub marks_open : 0 < length (works_of (status_of begins f)) → AreMarksOf round.source.model begun (with_number rank due) begins
      marks_open filled = record {
        rising = rising_with rank due marks.rising;
        due_are = λ r. in_with_number rank r due ∙ ⊎_elim
            (λ (same : r ≡ rank).
            ap (λ b. b || is_in r due) (eq-eqb rank r (sym same))
            ∙ sym (lt-ltb (slice_index begun f) (length (works_of (status_of begins f))) (omega (arith, unbegun)))
            ∙ ap (has_next begun begins) (sym (ap (slice_get (model_order round.source.model)) same ∙ at)))
            (λ (apart : r ≡ rank → ⊥).
            ap (λ b. b || is_in r due) (ne_eqb rank r (λ same. apart (sym same)))
            ∙ marks.due_are r ∙ sym (else_due r apart))
            (cases_eq r rank);
        fresh = still_fresh;
        ran = still_ran;
      }

    -- ---- a function is shut

    shut_is : (f : ℕ) → is_legal round.source.model core (event.Shut f) ≡ true → works_of (status_of (after round pieces core (event.Shut f)) f) ≡ []
    shut_is f legal =
        ap works_of (get_or-set_same core.statuses f (done_with (fault_in (works_of (status_of core f)))) Waiting
        (open_there core f (works_of (status_of core f)) (may_shut_is (outputs_of round.source.model f) (status_of core f) legal).0))
        ∙ done (fault_in (works_of (status_of core f)))
      where
        done : (o : Option SimFault) → works_of (done_with o) ≡ []
        done None = refl
        done (Some fault) = refl

    shut_waits : (f : ℕ) → is_legal round.source.model core (event.Shut f) ≡ true → is_waiting (status_of (after round pieces core (event.Shut f)) f) ≡ false
    shut_waits f legal =
        ap is_waiting (get_or-set_same core.statuses f (done_with (fault_in (works_of (status_of core f)))) Waiting
        (open_there core f (works_of (status_of core f)) (may_shut_is (outputs_of round.source.model f) (status_of core f) legal).0))
        ∙ done_waits (fault_in (works_of (status_of core f)))

    pub whole_shut : (f : ℕ) → is_legal round.source.model core (event.Shut f) ≡ true → ArePiecesWhole round.source.model core
        → ArePiecesWhole round.source.model (after round pieces core (event.Shut f))
    whole_shut f legal whole g k work there = ⊎_elim
        (λ (same : g ≡ f). absurd (none-some _ (sym (ap (λ (works : List Work). slice_get works k) (shut_is f legal)) ∙ ap (λ h. work_of (after round pieces core (event.Shut f)) h k) (sym same) ∙ there)))
        (λ (apart : g ≡ f → ⊥). whole g k work (ap (λ s. slice_get (works_of s) k) (sym (shut_apart f g apart)) ∙ there))
        (cases_eq g f)

    -- all its pieces were begun
    all_begun : (begun due : List ℕ) (f : ℕ) → is_legal round.source.model core (event.Shut f) ≡ true → AreMarksOf round.source.model begun due core
        → has_next begun core (Some f) ≡ false
    all_begun begun due f legal marks = ⊎_elim
        (λ (less : nat_lt (slice_index begun f) (length (works_of (status_of core f))) ≡ true).
        let outs = outputs_of round.source.model f in
        let k = slice_index begun f in
        let found = slice_get-some (works_of (status_of core f)) k (ltb-true k (length (works_of (status_of core f))) less) in
        let left = none_left outs found.0 (over_at outs core f k found.0 legal found.1) in
        let kept = each_at (KeptWork outs) (works_of (status_of core f)) k found.0 ((kept_core round pieces core led).works f).each found.1 in
        let ran : 0 < found.0.ran = omega (arith, ltb-false found.0.ran (length found.0.agents) left, kept.some) in
        absurd (never k (marks.ran f k found.0 found.1 ran)))
        (λ (none : nat_lt (slice_index begun f) (length (works_of (status_of core f))) ≡ false). none)
        (cases_Bool (nat_lt (slice_index begun f) (length (works_of (status_of core f)))))
      where
        never : (k : ℕ) → k < k → ⊥
        never k less = omega arith

    pub marks_shut : (begun due : List ℕ) (f : ℕ) → is_legal round.source.model core (event.Shut f) ≡ true → AreMarksOf round.source.model begun due core
        → AreMarksOf round.source.model begun due (after round pieces core (event.Shut f))
    marks_shut begun due f legal marks = record {
      rising = marks.rising;
      due_are = λ r. marks.due_are r ∙ at (slice_get (model_order round.source.model) r);
      fresh = λ g waits. ⊎_elim
          (λ (same : g ≡ f). absurd (true≢false (sym waits ∙ ap (λ h. is_waiting (status_of (after round pieces core (event.Shut f)) h)) same ∙ shut_waits f legal)))
          (λ (apart : g ≡ f → ⊥). marks.fresh g (ap is_waiting (sym (shut_apart f g apart)) ∙ waits))
          (cases_eq g f);
      ran = λ g k work there ran. ⊎_elim
          (λ (same : g ≡ f). absurd (none-some _ (sym (ap (λ (works : List Work). slice_get works k) (shut_is f legal)) ∙ ap (λ h. work_of (after round pieces core (event.Shut f)) h k) (sym same) ∙ there)))
          (λ (apart : g ≡ f → ⊥). marks.ran g k work (ap (λ s. slice_get (works_of s) k) (sym (shut_apart f g apart)) ∙ there) ran)
          (cases_eq g f);
    }
      where
        at : (o : Option ℕ) → has_next begun core o ≡ has_next begun (after round pieces core (event.Shut f)) o
        at None = refl
        at (Some g) = ⊎_elim
            (λ (same : g ≡ f).
            ap (λ h. has_next begun core (Some h)) same
            ∙ all_begun begun due f legal marks
            ∙ sym (le-ltb (slice_index begun f) 0 (omega arith))
            ∙ ap (λ (works : List Work). nat_lt (slice_index begun f) (length works)) (sym (shut_is f legal))
            ∙ ap (λ h. has_next begun (after round pieces core (event.Shut f)) (Some h)) (sym same))
            (λ (apart : g ≡ f → ⊥). ap (λ s. nat_lt (slice_index begun g) (length (works_of s))) (sym (shut_apart f g apart)))
            (cases_eq g f)

  -- ---- a board is frozen

  pub marks_freeze : (begun due : List ℕ) (m : ℕ) → AreMarksOf round.source.model begun due core → AreMarksOf round.source.model begun due (after round pieces core (event.Freeze m))
  marks_freeze begun due m marks = record { rising = marks.rising; due_are = marks.due_are; fresh = marks.fresh; ran = marks.ran }

-- ---- a piece changed

-- of all pieces one alone became another
pub record PieceBecame (core next : Core) (f k : ℕ) (work : Work) : Type 0 where
  pub others : (g : ℕ) → (g ≡ f → ⊥) → status_of next g ≡ status_of core g
  pub many : length (works_of (status_of next f)) ≡ length (works_of (status_of core f))
  pub started : is_waiting (status_of next f) ≡ false
  pub apart : (j : ℕ) → (j ≡ k → ⊥) → work_of next f j ≡ work_of core f j
  pub there : work_of next f k ≡ Some work

pub piece_became : (core next : Core) (f k : ℕ) (old work : Work) → work_of core f k ≡ Some old → next.statuses ≡ with_work core f k work → PieceBecame core next f k work
piece_became core next f k old work there is =
    let works = works_of (status_of core f) in
    let own : status_of next f ≡ Open (slice_set works k work) =
    ap (λ (l : List Status). slice_index_or l f Waiting) is ∙ get_or-set_same core.statuses f (Open (slice_set works k work)) Waiting (status_below core f k old there) in
    record {
      others = λ g away. ap (λ (l : List Status). slice_index_or l g Waiting) is ∙ get_or-set_other core.statuses f g (Open (slice_set works k work)) Waiting away;
      many = ap (λ s. length (works_of s)) own ∙ length-set works k work;
      started = ap is_waiting own;
      apart = λ j away. ap (λ s. slice_get (works_of s) j) own ∙ slice_get-slice_set_other works k j work away;
      there = ap (λ s. slice_get (works_of s) k) own ∙ slice_get-slice_set works k work old there;
    }

pub became_again : (core mid next : Core) (f k : ℕ) (one two : Work) → PieceBecame core mid f k one → PieceBecame mid next f k two → PieceBecame core next f k two
became_again core mid next f k one two first second = record {
  others = λ g away. second.others g away ∙ first.others g away;
  many = second.many ∙ first.many;
  started = second.started;
  apart = λ j away. second.apart j away ∙ first.apart j away;
  there = second.there;
}

-- where it became one that is over, each piece is whole still
pub whole_became : (model : Model) (core next : Core) (f k : ℕ) (work : Work) → PieceBecame core next f k work → is_over (outputs_of model f) work ≡ true
    → ArePiecesWhole model core → ArePiecesWhole model next
whole_became model core next f k work became over whole g j other there = ⊎_elim
    (λ (same : g ≡ f). ⊎_elim
    (λ (here : j ≡ k).
    let is : work ≡ other = same_Some work other (sym became.there ∙ ap (λ i. work_of next f i) (sym here) ∙ ap (λ h. work_of next h j) (sym same) ∙ there) in
    inr (ap (λ h. is_over (outputs_of model h) other) same ∙ ap (is_over (outputs_of model f)) (sym is) ∙ over))
    (λ (away : j ≡ k → ⊥).
    whole g j other (ap (λ h. work_of core h j) same ∙ sym (became.apart j away) ∙ ap (λ h. work_of next h j) (sym same) ∙ there))
    (cases_eq j k))
    (λ (away : g ≡ f → ⊥). whole g j other (ap (λ s. slice_get (works_of s) j) (sym (became.others g away)) ∙ there))
    (cases_eq g f)

-- where it was begun, the marks tell the same
pub marks_became : (model : Model) (core next : Core) (begun due : List ℕ) (f k : ℕ) (work : Work) → PieceBecame core next f k work → k < slice_index begun f
    → AreMarksOf model begun due core → AreMarksOf model begun due next
marks_became model core next begun due f k work became was marks = record {
  rising = marks.rising;
  due_are = λ r. marks.due_are r ∙ at (slice_get (model_order model) r);
  fresh = λ g waits. ⊎_elim
      (λ (same : g ≡ f). absurd (true≢false (sym waits ∙ ap (λ h. is_waiting (status_of next h)) same ∙ became.started)))
      (λ (away : g ≡ f → ⊥). marks.fresh g (ap is_waiting (sym (became.others g away)) ∙ waits))
      (cases_eq g f);
  ran = λ g j other there ran. ⊎_elim
      (λ (same : g ≡ f). ⊎_elim
      (λ (here : j ≡ k). subst (λ i. i < slice_index begun g) (sym here) (subst (λ h. k < slice_index begun h) (sym same) was))
      (λ (away : j ≡ k → ⊥).
      marks.ran g j other (ap (λ h. work_of core h j) same ∙ sym (became.apart j away) ∙ ap (λ h. work_of next h j) (sym same) ∙ there) ran)
      (cases_eq j k))
      (λ (away : g ≡ f → ⊥). marks.ran g j other (ap (λ s. slice_get (works_of s) j) (sym (became.others g away)) ∙ there) ran)
      (cases_eq g f);
}
  where
    at : (o : Option ℕ) → has_next begun core o ≡ has_next begun next o
    at None = refl
    at (Some g) = ⊎_elim
        (λ (same : g ≡ f). ap (λ h. has_next begun core (Some h)) same ∙ ap (nat_lt (slice_index begun f)) (sym became.many) ∙ ap (λ h. has_next begun next (Some h)) (sym same))
        (λ (away : g ≡ f → ⊥). ap (λ s. nat_lt (slice_index begun g) (length (works_of s))) (sym (became.others g away)))
        (cases_eq g f)
