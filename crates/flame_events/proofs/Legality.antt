-- What holds of a core holds after each legal event.
use Rattle.std.proofs.Common.{◌≡◌, ℕ, ◌<◌, ◌⊎◌, inl, inr, ⊎_elim, Bool, true, false, cond, List, [], ◌∷◌, length, Option, Some, None, refl, sym, ap, ◌∙◌, arith, subst, length-set}
use Rattle.std.specs.Prelude.{◌==◌, ◌&&◌, slice_get, slice_set, slice_index_or}
use Rattle.std.specs.List.{list_all}
use Rattle.std.proofs.lemmas.Bool.{eqb-true, and_parts, and_from, ltb-true, lt-ltb, true≢false, false≢true}
use Rattle.flame_rows.specs.Bags.{weigh}
use Rattle.flame_spec.specs.declared.models.Model.{Model}
use Rattle.flame_spec.specs.Before.{function_count}
use Rattle.flame_spec.specs.Below.{is_in}
use Rattle.flame_spec.specs.Functions.{Place, functions}
use Rattle.flame_spec.proofs.FirstBelow.{is_in-all_below}
use Rattle.flame_world.specs.declared.faults.SimFault.{SimFault}
use Rattle.flame_world.specs.Iterations.{Round}
use Rattle.flame_events.specs.declared.events.Event.{Event}
use Rattle.flame_events.specs.declared.events.Event.TheVariants as event
use Rattle.flame_events.specs.CoreStates.{Status, Waiting, Open, Shut, Faulted, is_waiting, is_shut, works_of, fault_in, Core, status_of, work_of, is_frozen}
use Rattle.flame_events.specs.LegalEvents.{inputs_of, outputs_of, writers, may_open, may_shut, may_freeze, is_over, is_legal}
use Rattle.flame_events.specs.EventSteps.{opened, done_with, after, replay, are_legal}
use Rattle.flame_events.proofs.Weights.{Rows}
use Rattle.flame_events.proofs.Spots.{Spot, same_spot, enters, pool_at}
use Rattle.flame_events.proofs.Holding.{Ideal, lived, sent, born, IsIdeal}
use Rattle.flame_events.proofs.Moves.{put, put-else, holds-more}
use Rattle.flame_events.proofs.Works.{ran_rows, handed_rows, OpenFits, Fits, over_ran, over_handed, all_of_list, shut_fits}
use Rattle.flame_events.proofs.Sound.{still_in, ran_in, handed_in, Sound, set_table, sound_change, can_open, sound_opened, open_below}
use Rattle.flame_events.proofs.Running.{at_new, nothing_of, sound_next}
use Rattle.flame_events.proofs.Handing.{sound_hand_in}

-- ---- a function is shut

pub done_waits : (o : Option SimFault) → is_waiting (done_with o) ≡ false
done_waits None = refl
done_waits (Some fault) = refl

done_ran : (agents : Rows) (o : Option SimFault) → ran_rows agents (done_with o) ≡ agents
done_ran agents None = refl
done_ran agents (Some fault) = refl

done_handed : (outs : List ℕ) (m : ℕ) (agents : Rows) (o : Option SimFault) → handed_rows outs m agents (done_with o) ≡ agents
done_handed outs m agents None = refl
done_handed outs m agents (Some fault) = refl

pub may_shut_is : (outs : List ℕ) (status : Status) → may_shut outs status ≡ true → (status ≡ Open (works_of status)) × (list_all (is_over outs) (works_of status) ≡ true)
may_shut_is outs Waiting legal = absurd (false≢true legal)
may_shut_is outs (Open works) legal = (refl, legal)
may_shut_is outs Shut legal = absurd (false≢true legal)
may_shut_is outs (Faulted fault) legal = absurd (false≢true legal)

sound_shut : (round : Round) (start : Spot → Rows) (t : Ideal) (pieces : ℕ) (core : Core) (f : ℕ)
    → Sound round start t core → may_shut (outputs_of round.source.model f) (status_of core f) ≡ true
    → Sound round start t (after round pieces core (event.Shut f))
sound_shut round start t pieces core f h legal =
    let model = round.source.model in
    let outs = outputs_of model f in
    let works = works_of (status_of core f) in
    let is = (may_shut_is outs (status_of core f) legal).0 in
    let over = (may_shut_is outs (status_of core f) legal).1 in
    let below = open_below round start t core f works h is in
    let fits : OpenFits round t f works = subst (Fits round t f) is (h.fits f) in
    let o = fault_in works in
    let v : Status = done_with o in
    let agents = t.agents f in
    let ran_same : ran_rows agents (put (status_of core) f v f) ≡ ran_rows agents (status_of core f) =
    at_new (ran_rows agents) core f v ∙ done_ran agents o ∙ sym (over_ran outs works over ∙ fits.whole) ∙ ap (ran_rows agents) (sym is) in
    let handed_same : (m : ℕ) → is_in m outs ≡ true → handed_rows outs m agents (put (status_of core) f v f) ≡ handed_rows outs m agents (status_of core f) =
    λ m writes. at_new (handed_rows outs m agents) core f v ∙ done_handed outs m agents o
    ∙ sym (over_handed outs m works writes over ∙ over_ran outs works over ∙ fits.whole) ∙ ap (handed_rows outs m agents) (sym is) in
    sound_change round start t core f v core.field h below
    (done_waits o ∙ ap is_waiting (sym is)) (λ e. absurd (true≢false (sym e ∙ ap is_shut is)))
    (shut_fits round t f works fits over)
    (holds-more round start t f core.field core.field (still_in core)
    (ran_in t core) (λ g. ran_rows (t.agents g) (put (status_of core) f v g))
    (handed_in model t core) (λ m g. handed_rows (outputs_of model g) m (t.agents g) (put (status_of core) f v g))
    [] (λ m. []) (λ n. []) h.holds below
    (record {
      pools = λ p w. nothing_of (same_spot (enters model f) p) w (weigh w (pool_at model core.field.pools p));
      boards = λ m w less. nothing_of (is_in m outs) w (weigh w (slice_index_or core.field.boards m []));
      births = λ n w less. omega arith;
      pools_up = h.holds.pools_up;
      boards_up = h.holds.boards_up;
      born_up = h.holds.born_up;
      shape = h.holds.shape;
      ran_else = λ g apart. ap (ran_rows (t.agents g)) (put-else (status_of core) f v g apart);
      handed_else = λ m g apart. ap (handed_rows (outputs_of model g) m (t.agents g)) (put-else (status_of core) f v g apart);
      lived_more = λ w. ap (λ l. weigh w (lived t f l)) ran_same ∙ omega arith;
      sent_more = λ m w writes. ap (λ l. weigh w (sent t f m l)) (handed_same m writes) ∙ omega arith;
      born_more = λ n w. ap (λ l. weigh w (born t f n l)) ran_same ∙ omega arith;
      arrive = λ w. refl;
    }))

-- ---- a board is frozen

pub each_also : (test other : ℕ → Bool) (numbers : List ℕ) → ((n : ℕ) → test n ≡ true → other n ≡ true) → list_all test numbers ≡ true → list_all other numbers ≡ true
each_also test other [] go all = refl
each_also test other (n ∷ numbers) go all =
    let both = and_parts (test n) (list_all test numbers) all in
    and_from (other n) (list_all other numbers) (go n both.0) (each_also test other numbers go both.1)

pub in_writers : (model : Model) (m g : ℕ) → g < function_count model → is_in m (outputs_of model g) ≡ true → is_in g (writers model m) ≡ true
in_writers model m g less writes =
    is_in-all_below (λ f. is_in m (outputs_of model f)) (function_count model) g ∙ (λ i. lt-ltb g (function_count model) less i && writes i)

pub put_true : (b c : Bool) → c ≡ true → cond b true c ≡ true
put_true true c is = refl
put_true false c is = is

pub frozen_cases : (core : Core) (m i : ℕ) → cond (i == m) true (is_frozen core i) ≡ true → (i ≡ m) ⊎ (is_frozen core i ≡ true)
frozen_cases core m i frozen =
    (elim (i == m) as (λ b. (i == m) ≡ b → cond b true (is_frozen core i) ≡ true → (i ≡ m) ⊎ (is_frozen core i ≡ true)) [
      | true ↦ λ same _. inl (eqb-true i m same)
      | false ↦ λ _ old. inr old
    ])
    refl frozen

sound_frozen : (round : Round) (start : Spot → Rows) (t : Ideal) (pieces : ℕ) (core : Core) (m : ℕ)
    → Sound round start t core → may_freeze round.source.model core m ≡ true
    → Sound round start t (after round pieces core (event.Freeze m))
sound_frozen round start t pieces core m h legal =
    let model = round.source.model in
    let a = and_parts _ _ legal in
    let b = and_parts _ _ a.0 in
    let known : m < length model.messages = ltb-true m (length model.messages) b.0 in
    let less : m < length core.frozen = subst (λ n. m < n) (sym h.marks) known in
    let marks : (i : ℕ) → slice_index_or (slice_set core.frozen m true) i false ≡ cond (i == m) true (is_frozen core i) = set_table core.frozen m true false less in
    record {
      long = h.long;
      marks = length-set core.frozen m true ∙ h.marks;
      holds = h.holds;
      fits = h.fits;
      early = h.early;
      fed = λ f waits. each_also (is_frozen core) (λ i. slice_index_or (slice_set core.frozen m true) i false) (inputs_of model f)
          (λ i old. marks i ∙ put_true (i == m) (is_frozen core i) old) (h.fed f waits);
      written = λ i g below frozen writes. ⊎_elim
          (λ (same : i ≡ m). all_of_list (λ g. is_shut (status_of core g)) (writers model m) g a.1 (in_writers model m g below (ap (λ n. is_in n (outputs_of model g)) (sym same) ∙ writes)))
          (λ (old : is_frozen core i ≡ true). h.written i g below old writes)
          (frozen_cases core m i (sym (marks i) ∙ frozen));
    }

-- ---- all events

sound_open : (round : Round) (start : Spot → Rows) (t : Ideal) (pieces : ℕ) (core : Core) (f : ℕ) (place : Option Place)
    → IsIdeal round start t → 0 < pieces → Sound round start t core → may_open round.source.model core f ≡ true
    → slice_get (functions round.source.model) f ≡ place
    → Sound round start t (opened round pieces f place core)
sound_open round start t pieces core f None ideal some h legal at = h
sound_open round start t pieces core f (Some place) ideal some h legal at =
    sound_opened round start t pieces core f place ideal some h (can_open round.source.model core f legal) at

pub sound_after : (round : Round) (start : Spot → Rows) (t : Ideal) (pieces : ℕ) (core : Core) (e : Event)
    → IsIdeal round start t → 0 < pieces → Sound round start t core → is_legal round.source.model core e ≡ true
    → Sound round start t (after round pieces core e)
sound_after round start t pieces core (event.Open f) ideal some h legal =
    sound_open round start t pieces core f (slice_get (functions round.source.model) f) ideal some h legal refl
sound_after round start t pieces core (event.Agent f k) ideal some h legal =
    sound_next round start t core f k (slice_get (functions round.source.model) f) (work_of core f k) ideal h refl refl
sound_after round start t pieces core (event.HandIn f k m) ideal some h legal = sound_hand_in round start t core f k m (work_of core f k) h refl legal
sound_after round start t pieces core (event.Shut f) ideal some h legal = sound_shut round start t pieces core f h legal
sound_after round start t pieces core (event.Freeze m) ideal some h legal = sound_frozen round start t pieces core m h legal

pub sound_replay : (round : Round) (start : Spot → Rows) (t : Ideal) (pieces : ℕ) (core : Core) (events : List Event)
    → IsIdeal round start t → 0 < pieces → Sound round start t core → are_legal round pieces core events ≡ true
    → Sound round start t (replay round pieces core events)
sound_replay round start t pieces core [] ideal some h legal = h
sound_replay round start t pieces core (e ∷ events) ideal some h legal =
    let both = and_parts (is_legal round.source.model core e) (are_legal round pieces (after round pieces core e) events) legal in
    sound_replay round start t pieces (after round pieces core e) events ideal some (sound_after round start t pieces core e ideal some h both.0) both.1
