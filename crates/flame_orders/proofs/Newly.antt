-- What an event newly allows.
use Rattle.std.proofs.Common.{◌≡◌, ℕ, zero, suc, ◌<◌, ◌⊎◌, inl, inr, ⊎_elim, Bool, true, false, List, [], ◌∷◌, length, map, Option, Some, None, refl, sym, ap, ◌∙◌, arith, subst, get_or-set_same}
use Rattle.std.specs.Prelude.{◌==◌, ◌&&◌, nat_lt, not, is_some, is_none, slice_get, slice_set, slice_index_or}
use Rattle.std.specs.List.{list_all, position_or_len}
use Rattle.std.proofs.lemmas.Bool.{and_parts, and_from, cases_eq, cases_Bool, ltb-true, lt-ltb, true≢false, false≢true}
use Rattle.flame_rows.specs.Cuts.{cut}
use Rattle.flame_rows.proofs.Lists.{slice_get-slice_set, slice_get-some}
use Rattle.flame_spec.specs.declared.models.Model.{Model}
use Rattle.flame_spec.specs.declared.outcomes.Outcome.{Outcome}
use Rattle.flame_spec.specs.declared.outcomes.Sent.{Sent}
use Rattle.flame_spec.specs.Before.{function_count}
use Rattle.flame_spec.specs.Below.{is_in}
use Rattle.flame_spec.specs.Functions.{functions}
use Rattle.flame_spec.proofs.FirstBelow.{is_in-all_below}
use Rattle.flame_meaning.specs.RangeLaws.{Each}
use Rattle.flame_meaning.proofs.Eachs.{each_at}
use Rattle.flame_world.specs.AgentRuns.{sent_by}
use Rattle.flame_world.specs.declared.faults.SimFault.{SimFault}
use Rattle.flame_world.specs.Iterations.{Round, taking, outcome_in}
use Rattle.flame_events.specs.declared.events.Event.{Event}
use Rattle.flame_events.specs.declared.events.Event.TheVariants as event
use Rattle.flame_events.specs.CoreStates.{Work, Waiting, Open, is_waiting, is_shut, works_of, has_left, part_in, fault_in, Core, status_of, work_of, is_frozen}
use Rattle.flame_events.specs.LegalEvents.{predecessors, inputs_of, outputs_of, writers, are_shut, may_open, may_run, may_hand_in, may_shut, may_freeze, is_over, is_legal}
use Rattle.flame_events.specs.EventSteps.{fresh_work, opened, with_agent, ran_agent, ran_next, joined_board, handed_in, done_with, after}
use Rattle.flame_events.proofs.Weights.{Row, Rows}
use Rattle.flame_events.proofs.Serial.{is_in-self, is_in-later}
use Rattle.flame_events.proofs.Works.{all_of_list, place_in, kept_is_output, without, part_in-without, part_in-without-else, part_in-with_sent, more_of}
use Rattle.flame_events.proofs.Sound.{can_open}
use Rattle.flame_events.proofs.Legality.{done_waits, may_shut_is}
use Rattle.flame_events.proofs.CoreWidths.{status_below}
use Rattle.flame_events.proofs.KeptCores.{KeptWork, KeptCore, kept_core, open_there, cut_filled}
use Rattle.flame_orders.specs.NewlyLegal.{Allows, NewlyLegalIsAllowed}
use Rattle.flame_orders.specs.UntouchedParts.{its_function, frozen_by}
use Rattle.flame_orders.proofs.Untouched.{other_functions_stay, other_pieces_stay, other_marks_stay}
use Rattle.flame_orders.proofs.Lasting.{led_on, runs, Hands, hands, over_at, none_left}

-- ---- lists

-- what the numbers of a list pass, each may pass by being in it
each_in : (test other : ℕ → Bool) (numbers : List ℕ) → ((n : ℕ) → is_in n numbers ≡ true → test n ≡ true → other n ≡ true) → list_all test numbers ≡ true
    → list_all other numbers ≡ true
each_in test other [] go all = refl
each_in test other (n ∷ numbers) go all =
    let both = and_parts (test n) (list_all test numbers) all in
    and_from (other n) (list_all other numbers) (go n (is_in-self n numbers) both.0)
    (each_in test other numbers (λ m within. go m (is_in-later m n numbers within)) both.1)

all_index : (parts : List (Option Rows)) (k : ℕ) → k < length parts → list_all is_some parts ≡ true → is_some (slice_index_or parts k None) ≡ true
all_index [] k less all = absurd (omega (arith, less))
all_index (part ∷ parts) zero less all = (and_parts (is_some part) (list_all is_some parts) all).0
all_index (part ∷ parts) (suc k) less all = all_index parts k (omega (arith, less)) (and_parts (is_some part) (list_all is_some parts) all).1

-- where nothing is handed in, there are messages for each output
kept_part : (outs : List ℕ) (parts : List (Option Rows)) (m : ℕ) → length parts ≡ length outs → list_all is_some parts ≡ true → is_in m outs ≡ true → is_some (part_in outs parts m) ≡ true
kept_part outs parts m long all within = all_index parts (position_or_len (λ output. output == m) outs) (omega (arith, (place_in m outs within).0, long)) all

still_some : (part : Option Rows) (messages : List Sent) (m : ℕ) → is_some part ≡ true → is_none (more_of messages m part) ≡ true → ⊥
still_some None messages m some none = false≢true some
still_some (Some rows) messages m some none = false≢true none

-- ---- what a legal event leaves of its function

all_left : (outs : List ℕ) (bags : List Rows) → Each (λ bag. 0 < length bag) bags → Each (λ work. has_left work ≡ true) (map (fresh_work outs) bags)
all_left outs [] filled = tt
all_left outs (bag ∷ bags) filled = (lt-ltb 0 (length bag) filled.0, all_left outs bags filled.1)

record Opened (round : Round) (pieces : ℕ) (core : Core) (f : ℕ) : Type 0 where
  pub works : List Work
  pub left : Each (λ work. has_left work ≡ true) works
  pub is : status_of (after round pieces core (event.Open f)) f ≡ Open works

opened_is : (round : Round) (pieces : ℕ) (core : Core) (f : ℕ) → KeptCore round.source.model pieces core → is_legal round.source.model core (event.Open f) ≡ true
    → Opened round pieces core f
opened_is round pieces core f kept legal =
    let model = round.source.model in
    let outs = outputs_of model f in
    let can = can_open model core f legal in
    let place = slice_get-some (functions model) f can.below in
    let bags = cut pieces (taking round f place.0 core.field) in
    record {
      works = map (fresh_work outs) bags;
      left = all_left outs bags (cut_filled pieces (taking round f place.0 core.field));
      is = ap (λ o. status_of (opened round pieces f o core) f) place.1
          ∙ get_or-set_same core.statuses f (Open (map (fresh_work outs) bags)) Waiting (omega (arith, can.below, kept.long));
    }

-- a piece of an open function was changed
record Changed (core next : Core) (f k : ℕ) (new : Work) : Type 0 where
  pub is : status_of next f ≡ Open (slice_set (works_of (status_of core f)) k new)
  pub there : work_of next f k ≡ Some new

changed_is : (core next : Core) (f k : ℕ) (work new : Work) → work_of core f k ≡ Some work
    → status_of next f ≡ slice_index_or (slice_set core.statuses f (Open (slice_set (works_of (status_of core f)) k new))) f Waiting → Changed core next f k new
changed_is core next f k work new at so =
    let works = works_of (status_of core f) in
    let is = so ∙ get_or-set_same core.statuses f (Open (slice_set works k new)) Waiting (status_below core f k work at) in
    record { is = is; there = ap (λ s. slice_get (works_of s) k) is ∙ slice_get-slice_set works k new work at }

record Ran (round : Round) (pieces : ℕ) (core : Core) (f k : ℕ) : Type 0 where
  pub work : Work
  pub memory : Row
  pub outcome : Outcome
  pub there : work_of core f k ≡ Some work
  pub left : has_left work ≡ true
  pub changed : Changed core (after round pieces core (event.Agent f k)) f k (with_agent round f work memory outcome)

ran_is : (round : Round) (pieces : ℕ) (core : Core) (f k : ℕ) → KeptCore round.source.model pieces core → is_legal round.source.model core (event.Agent f k) ≡ true
    → Ran round pieces core f k
ran_is round pieces core f k kept legal =
    let model = round.source.model in
    let found = runs core f k legal in
    let work = found.work in
    let place = slice_get-some (functions model) f (omega (arith, status_below core f k work found.there, kept.long)) in
    let memory = slice_get-some work.agents work.ran (ltb-true work.ran (length work.agents) found.left) in
    let outcome = outcome_in round f core.field memory.0 in
    record {
      work = work;
      memory = memory.0;
      outcome = outcome;
      there = found.there;
      left = found.left;
      changed = changed_is core (after round pieces core (event.Agent f k)) f k work (with_agent round f work memory.0 outcome) found.there
          (ap (λ o. status_of (ran_next round f k o (work_of core f k) core) f) place.1
          ∙ ap (λ o. status_of (ran_next round f k (Some place.0) o core) f) found.there
          ∙ ap (λ o. status_of (ran_agent round f k place.0 work o core) f) memory.1);
    }

record Handed (round : Round) (pieces : ℕ) (core : Core) (f k m : ℕ) : Type 0 where
  pub work : Work
  pub rows : Rows
  pub there : work_of core f k ≡ Some work
  pub over : has_left work ≡ false
  pub part : part_in (outputs_of round.source.model f) work.parts m ≡ Some rows
  pub changed : Changed core (after round pieces core (event.HandIn f k m)) f k (without (outputs_of round.source.model f) m work)

handed_is : (round : Round) (pieces : ℕ) (core : Core) (f k m : ℕ) → is_legal round.source.model core (event.HandIn f k m) ≡ true → Handed round pieces core f k m
handed_is round pieces core f k m legal = go (part_in outs found.work.parts m) refl found.part
  where
    found : Hands (outputs_of round.source.model f) core f k m
    found = hands (outputs_of round.source.model f) core f k m legal

    outs : List ℕ
    outs = outputs_of round.source.model f

    go : (o : Option Rows) → part_in (outputs_of round.source.model f) found.work.parts m ≡ o → is_some o ≡ true → Handed round pieces core f k m
    go None is some = absurd (false≢true some)
    go (Some rows) is some = record {
      work = found.work;
      rows = rows;
      there = found.there;
      over = found.over;
      part = is;
      changed = changed_is core (after round pieces core (event.HandIn f k m)) f k found.work (without (outputs_of round.source.model f) m found.work) found.there
          (ap (λ o. status_of (handed_in f k m (outputs_of round.source.model f) o core) f) found.there
          ∙ ap (λ o. status_of (joined_board f k m (outputs_of round.source.model f) found.work o core) f) is);
    }

done_works : (o : Option SimFault) → works_of (done_with o) ≡ []
done_works None = refl
done_works (Some fault) = refl

done_shuts : (outs : List ℕ) (o : Option SimFault) → may_shut outs (done_with o) ≡ false
done_shuts outs None = refl
done_shuts outs (Some fault) = refl

shut_is : (round : Round) (pieces : ℕ) (core : Core) (f : ℕ) → is_legal round.source.model core (event.Shut f) ≡ true
    → status_of (after round pieces core (event.Shut f)) f ≡ done_with (fault_in (works_of (status_of core f)))
shut_is round pieces core f legal =
    let works = works_of (status_of core f) in
    get_or-set_same core.statuses f (done_with (fault_in works)) Waiting (open_there core f works (may_shut_is (outputs_of round.source.model f) (status_of core f) legal).0)

-- ---- what is not newly so

module _ (round : Round) (pieces : ℕ) (core : Core) (kept : KeptCore round.source.model pieces core) where
  abbrev model : Model
  model = round.source.model

  abbrev next : Event → Core
  next e = after round pieces core e

  -- after an event of its own a function does not wait
  own_begun : (e : Event) (f : ℕ) → is_legal model core e ≡ true → its_function e ≡ Some f → is_waiting (status_of (next e) f) ≡ true → ⊥
  own_begun (event.Open g) f legal is waits =
      let same : g ≡ f = cc in
      false≢true (sym (ap is_waiting (opened_is round pieces core g kept legal).is) ∙ subst (λ h. is_waiting (status_of (next (event.Open g)) h) ≡ true) (sym same) waits)
  own_begun (event.Agent g k) f legal is waits =
      let same : g ≡ f = cc in
      false≢true (sym (ap is_waiting (ran_is round pieces core g k kept legal).changed.is) ∙ subst (λ h. is_waiting (status_of (next (event.Agent g k)) h) ≡ true) (sym same) waits)
  own_begun (event.HandIn g k m) f legal is waits =
      let same : g ≡ f = cc in
      false≢true (sym (ap is_waiting (handed_is round pieces core g k m legal).changed.is) ∙ subst (λ h. is_waiting (status_of (next (event.HandIn g k m)) h) ≡ true) (sym same) waits)
  own_begun (event.Shut g) f legal is waits =
      let same : g ≡ f = cc in
      false≢true (sym (ap is_waiting (shut_is round pieces core g legal) ∙ done_waits (fault_in (works_of (status_of core g))))
      ∙ subst (λ h. is_waiting (status_of (next (event.Shut g)) h) ≡ true) (sym same) waits)
  own_begun (event.Freeze m) f legal is waits = cc

  -- nor is it shut, unless that shuts it
  own_unshut : (e : Event) (f : ℕ) → is_legal model core e ≡ true → its_function e ≡ Some f → (e ≡ event.Shut f → ⊥) → is_shut (status_of (next e) f) ≡ true → ⊥
  own_unshut (event.Open g) f legal is apart shut =
      let same : g ≡ f = cc in
      false≢true (sym (ap is_shut (opened_is round pieces core g kept legal).is) ∙ subst (λ h. is_shut (status_of (next (event.Open g)) h) ≡ true) (sym same) shut)
  own_unshut (event.Agent g k) f legal is apart shut =
      let same : g ≡ f = cc in
      false≢true (sym (ap is_shut (ran_is round pieces core g k kept legal).changed.is) ∙ subst (λ h. is_shut (status_of (next (event.Agent g k)) h) ≡ true) (sym same) shut)
  own_unshut (event.HandIn g k m) f legal is apart shut =
      let same : g ≡ f = cc in
      false≢true (sym (ap is_shut (handed_is round pieces core g k m legal).changed.is) ∙ subst (λ h. is_shut (status_of (next (event.HandIn g k m)) h) ≡ true) (sym same) shut)
  own_unshut (event.Shut g) f legal is apart shut = let same : g ≡ f = cc in apart (ap event.Shut same)
  own_unshut (event.Freeze m) f legal is apart shut = cc

  owner : (e : Event) (h : ℕ) → (its_function e ≡ Some h) ⊎ (its_function e ≡ Some h → ⊥)
  owner e h = go (its_function e)
    where
      go : (o : Option ℕ) → (o ≡ Some h) ⊎ (o ≡ Some h → ⊥)
      go None = inr (λ is. cc)
      go (Some f) = ⊎_elim (λ (same : f ≡ h). inl (ap Some same)) (λ (else : f ≡ h → ⊥). inr (λ is. let same : f ≡ h = cc in else same)) (cases_eq f h)

  shut_before : (e : Event) (h : ℕ) → is_legal model core e ≡ true → (e ≡ event.Shut h → ⊥) → is_shut (status_of (next e) h) ≡ true → is_shut (status_of core h) ≡ true
  shut_before e h legal apart shut = ⊎_elim
      (λ (own : its_function e ≡ Some h). absurd (own_unshut e h legal own apart shut))
      (λ (else : its_function e ≡ Some h → ⊥). sym (ap is_shut (other_functions_stay round pieces h e core else)) ∙ shut)
      (owner e h)

  all_shut_before : (e : Event) (numbers : List ℕ) → is_legal model core e ≡ true → ((h : ℕ) → is_in h numbers ≡ true → e ≡ event.Shut h → ⊥)
      → are_shut (next e) numbers ≡ true → are_shut core numbers ≡ true
  all_shut_before e numbers legal apart all =
      each_in (λ h. is_shut (status_of (next e) h)) (λ h. is_shut (status_of core h)) numbers (λ h within shut. shut_before e h legal (apart h within) shut) all

  -- ---- a function may be opened

  open_before : (e : Event) (g : ℕ) → is_legal model core e ≡ true → ((h : ℕ) → is_in h (predecessors model g) ≡ true → e ≡ event.Shut h → ⊥)
      → ((m : ℕ) → is_in m (inputs_of model g) ≡ true → frozen_by e ≡ Some m → ⊥) → may_open model (next e) g ≡ true
      → (may_open model core g ≡ true) × (event.Open g ≡ e → ⊥)
  open_before e g legal earlier fed may =
      let a = and_parts _ _ may in
      let b = and_parts _ _ a.0 in
      let c = and_parts _ _ b.0 in
      let not_own : its_function e ≡ Some g → ⊥ = λ is. own_begun e g legal is c.1 in
      let same = other_functions_stay round pieces g e core not_own in (
        and_from (nat_lt g (function_count model) && is_waiting (status_of core g) && are_shut core (predecessors model g)) (list_all (is_frozen core) (inputs_of model g))
            (and_from (nat_lt g (function_count model) && is_waiting (status_of core g)) (are_shut core (predecessors model g))
            (and_from (nat_lt g (function_count model)) (is_waiting (status_of core g)) c.0 (sym (ap is_waiting same) ∙ c.1))
            (all_shut_before e (predecessors model g) legal earlier b.1))
            (each_in (is_frozen (next e)) (is_frozen core) (inputs_of model g) (λ m within at. sym (other_marks_stay round pieces m e core (fed m within)) ∙ at) a.1),
        λ is. not_own (sym (ap its_function is)),
      )

  abbrev Old : Event → Event → Type 0
  Old e x = (is_legal model core x ≡ true) × (x ≡ e → ⊥)

  abbrev Answer : Event → Event → Type 0
  Answer e x = Old e x ⊎ Allows model (next e) e x

  open_allowed : (e : Event) (g : ℕ) → is_legal model core e ≡ true → may_open model (next e) g ≡ true → Answer e (event.Open g)
  open_allowed (event.Open f) g legal may = inl (open_before (event.Open f) g legal (λ h within is. cc) (λ m within is. cc) may)
  open_allowed (event.Agent f k) g legal may = inl (open_before (event.Agent f k) g legal (λ h within is. cc) (λ m within is. cc) may)
  open_allowed (event.HandIn f k n) g legal may = inl (open_before (event.HandIn f k n) g legal (λ h within is. cc) (λ m within is. cc) may)
  open_allowed (event.Shut f) g legal may = ⊎_elim
      (λ (stands : is_in f (predecessors model g) ≡ true).
      let shut = all_of_list (λ h. is_shut (status_of (next (event.Shut f)) h)) (predecessors model g) f (and_parts _ _ (and_parts _ _ may).0).1 stands in
      inr (shut, inl (g, refl, stands)))
      (λ (free : is_in f (predecessors model g) ≡ false).
      inl (open_before (event.Shut f) g legal
      (λ h within is. let same : f ≡ h = cc in false≢true (sym free ∙ ap (λ n. is_in n (predecessors model g)) same ∙ within))
      (λ m within is. cc) may))
      (cases_Bool (is_in f (predecessors model g)))
  open_allowed (event.Freeze m) g legal may = ⊎_elim
      (λ (reads : is_in m (inputs_of model g) ≡ true). inr (g, refl, reads))
      (λ (free : is_in m (inputs_of model g) ≡ false).
      inl (open_before (event.Freeze m) g legal (λ h within is. cc)
      (λ n within is. let same : m ≡ n = cc in false≢true (sym free ∙ ap (λ i. is_in i (inputs_of model g)) same ∙ within)) may))
      (cases_Bool (is_in m (inputs_of model g)))

  -- ---- an agent may run

  run_before : (e : Event) (g j : ℕ) → work_of (next e) g j ≡ work_of core g j → (event.Agent g j ≡ e → ⊥) → may_run (work_of (next e) g j) ≡ true → Old e (event.Agent g j)
  run_before e g j same apart may = (sym (ap may_run same) ∙ may, apart)

  elsewhere : (e : Event) (f g j : ℕ) → its_function e ≡ Some f → (f ≡ g → ⊥) → work_of (next e) g j ≡ work_of core g j
  elsewhere e f g j is apart =
      ap (λ s. slice_get (works_of s) j) (other_functions_stay round pieces g e core (λ other. let same : Some f ≡ Some g = sym is ∙ other in let here : f ≡ g = cc in apart here))

  -- a function that is shut has no piece
  no_piece : (f j : ℕ) → is_legal model core (event.Shut f) ≡ true → work_of (next (event.Shut f)) f j ≡ None
  no_piece f j legal =
      ap (λ s. slice_get (works_of s) j) (shut_is round pieces core f legal) ∙ ap (λ l. slice_get l j) (done_works (fault_in (works_of (status_of core f))))

  run_allowed : (e : Event) (g j : ℕ) → is_legal model core e ≡ true → may_run (work_of (next e) g j) ≡ true → Answer e (event.Agent g j)
  run_allowed (event.Open f) g j legal may = ⊎_elim
      (λ (same : f ≡ g). inr (inl (j, ap (λ h. event.Agent h j) (sym same))))
      (λ (else : f ≡ g → ⊥). inl (run_before (event.Open f) g j (elsewhere (event.Open f) f g j refl else) (λ is. cc) may))
      (cases_eq f g)
  run_allowed (event.Agent f k) g j legal may = ⊎_elim
      (λ (same : f ≡ g). ⊎_elim
      (λ (here : j ≡ k). inr (inl (λ i. event.Agent (sym same i) (here i))))
      (λ (else : j ≡ k → ⊥).
      inl (run_before (event.Agent f k) g j (other_pieces_stay round pieces g j (event.Agent f k) core refl (λ is. let again : j ≡ k = cc in else again))
      (λ is. let again : j ≡ k = cc in else again) may))
      (cases_eq j k))
      (λ (else : f ≡ g → ⊥). inl (run_before (event.Agent f k) g j (elsewhere (event.Agent f k) f g j refl else) (λ is. let again : f ≡ g = cc in else again) may))
      (cases_eq f g)
  run_allowed (event.HandIn f k m) g j legal may = ⊎_elim
      (λ (same : f ≡ g). ⊎_elim
      (λ (here : j ≡ k).
      let handed = handed_is round pieces core f k m legal in
      let ran : may_run (work_of (next (event.HandIn f k m)) f k) ≡ true =
      subst (λ h. may_run (work_of (next (event.HandIn f k m)) h k) ≡ true) (sym same) (subst (λ i. may_run (work_of (next (event.HandIn f k m)) g i) ≡ true) here may) in
      absurd (false≢true (sym handed.over ∙ sym (ap may_run handed.changed.there) ∙ ran)))
      (λ (else : j ≡ k → ⊥).
      inl (run_before (event.HandIn f k m) g j (other_pieces_stay round pieces g j (event.HandIn f k m) core refl (λ is. let again : j ≡ k = cc in else again)) (λ is. cc) may))
      (cases_eq j k))
      (λ (else : f ≡ g → ⊥). inl (run_before (event.HandIn f k m) g j (elsewhere (event.HandIn f k m) f g j refl else) (λ is. cc) may))
      (cases_eq f g)
  run_allowed (event.Shut f) g j legal may = ⊎_elim
      (λ (same : f ≡ g).
      let ran : may_run (work_of (next (event.Shut f)) f j) ≡ true = subst (λ h. may_run (work_of (next (event.Shut f)) h j) ≡ true) (sym same) may in
      absurd (false≢true (sym (ap may_run (no_piece f j legal)) ∙ ran)))
      (λ (else : f ≡ g → ⊥). inl (run_before (event.Shut f) g j (elsewhere (event.Shut f) f g j refl else) (λ is. cc) may))
      (cases_eq f g)
  run_allowed (event.Freeze m) g j legal may = inl (may, λ is. cc)

  -- ---- messages may be handed in

  hand_before : (e : Event) (g j m : ℕ) → work_of (next e) g j ≡ work_of core g j → (event.HandIn g j m ≡ e → ⊥)
      → may_hand_in (outputs_of model g) (work_of (next e) g j) m ≡ true → Old e (event.HandIn g j m)
  hand_before e g j m same apart may = (sym (ap (λ o. may_hand_in (outputs_of model g) o m) same) ∙ may, apart)

  -- a piece of a function that was just opened hands in nothing
  new_keeps : (f j m : ℕ) → is_legal model core (event.Open f) ≡ true → may_hand_in (outputs_of model f) (work_of (next (event.Open f)) f j) m ≡ true → ⊥
  new_keeps f j m legal may =
      let was = opened_is round pieces core f kept legal in
      let found = hands (outputs_of model f) (next (event.Open f)) f j m may in
      let at : slice_get was.works j ≡ Some found.work = sym (ap (λ s. slice_get (works_of s) j) was.is) ∙ found.there in
      true≢false (sym (each_at (λ work. has_left work ≡ true) was.works j found.work was.left at) ∙ found.over)

  -- what a piece hands in is of an output
  hands_output : (e : Event) (f k m : ℕ) → KeptCore model pieces (next e) → may_hand_in (outputs_of model f) (work_of (next e) f k) m ≡ true → is_in m (outputs_of model f) ≡ true
  hands_output e f k m later may = go (part_in outs found.work.parts m) refl found.part
    where
      outs : List ℕ
      outs = outputs_of model f

      found : Hands (outputs_of model f) (next e) f k m
      found = hands (outputs_of model f) (next e) f k m may

      go : (o : Option Rows) → part_in (outputs_of model f) found.work.parts m ≡ o → is_some o ≡ true → is_in m (outputs_of model f) ≡ true
      go None is some = absurd (false≢true some)
      go (Some rows) is some =
          kept_is_output (outputs_of model f) found.work.parts m rows
          (each_at (KeptWork (outputs_of model f)) (works_of (status_of (next e) f)) k found.work (later.works f).each found.there).long is

  hand_twice : (f k n m : ℕ) → KeptCore model pieces (next (event.HandIn f k n)) → is_legal model core (event.HandIn f k n) ≡ true
      → may_hand_in (outputs_of model f) (work_of (next (event.HandIn f k n)) f k) m ≡ true → Old (event.HandIn f k n) (event.HandIn f k m)
  hand_twice f k n m later legal may =
      let outs = outputs_of model f in
      let handed = handed_is round pieces core f k n legal in
      let work = handed.work in
      let long = (each_at (KeptWork outs) (works_of (status_of core f)) k work (kept.works f).each handed.there).long in
      let one = kept_is_output outs work.parts n handed.rows long handed.part in
      let other = hands_output (event.HandIn f k n) f k m later may in
      let now : may_hand_in outs (Some (without outs n work)) m ≡ true = sym (ap (λ o. may_hand_in outs o m) handed.changed.there) ∙ may in
      let some : is_some (part_in outs (without outs n work).parts m) ≡ true = (and_parts (not (has_left work)) (is_some (part_in outs (without outs n work).parts m)) now).1 in
      let apart : m ≡ n → ⊥ = λ same. false≢true (sym (ap is_some (ap (part_in outs (without outs n work).parts) same ∙ part_in-without outs n work)) ∙ some) in
      let was : is_some (part_in outs work.parts m) ≡ true = sym (ap is_some (part_in-without-else outs n m work one other apart)) ∙ some in (
        ap (λ o. may_hand_in outs o m) handed.there ∙ and_from (not (has_left work)) (is_some (part_in outs work.parts m)) (ap not handed.over) was,
        λ is. let same : m ≡ n = cc in apart same,
      )

  hand_allowed : (e : Event) (g j m : ℕ) → KeptCore model pieces (next e) → is_legal model core e ≡ true
      → may_hand_in (outputs_of model g) (work_of (next e) g j) m ≡ true → Answer e (event.HandIn g j m)
  hand_allowed (event.Open f) g j m later legal may = ⊎_elim
      (λ (same : f ≡ g).
      absurd (new_keeps f j m legal (subst (λ h. may_hand_in (outputs_of model h) (work_of (next (event.Open f)) h j) m ≡ true) (sym same) may)))
      (λ (else : f ≡ g → ⊥). inl (hand_before (event.Open f) g j m (elsewhere (event.Open f) f g j refl else) (λ is. cc) may))
      (cases_eq f g)
  hand_allowed (event.Agent f k) g j m later legal may = ⊎_elim
      (λ (same : f ≡ g). ⊎_elim
      (λ (here : j ≡ k).
      let there : may_hand_in (outputs_of model f) (work_of (next (event.Agent f k)) f k) m ≡ true =
      subst (λ h. may_hand_in (outputs_of model h) (work_of (next (event.Agent f k)) h k) m ≡ true) (sym same)
      (subst (λ i. may_hand_in (outputs_of model g) (work_of (next (event.Agent f k)) g i) m ≡ true) here may) in
      inr (inr (inl (m, (λ i. event.HandIn (sym same i) (here i) m), hands_output (event.Agent f k) f k m later there))))
      (λ (else : j ≡ k → ⊥).
      inl (hand_before (event.Agent f k) g j m (other_pieces_stay round pieces g j (event.Agent f k) core refl (λ is. let again : j ≡ k = cc in else again)) (λ is. cc) may))
      (cases_eq j k))
      (λ (else : f ≡ g → ⊥). inl (hand_before (event.Agent f k) g j m (elsewhere (event.Agent f k) f g j refl else) (λ is. cc) may))
      (cases_eq f g)
  hand_allowed (event.HandIn f k n) g j m later legal may = ⊎_elim
      (λ (same : f ≡ g). ⊎_elim
      (λ (here : j ≡ k).
      let there : may_hand_in (outputs_of model f) (work_of (next (event.HandIn f k n)) f k) m ≡ true =
      subst (λ h. may_hand_in (outputs_of model h) (work_of (next (event.HandIn f k n)) h k) m ≡ true) (sym same)
      (subst (λ i. may_hand_in (outputs_of model g) (work_of (next (event.HandIn f k n)) g i) m ≡ true) here may) in
      inl (subst (λ x. Old (event.HandIn f k n) x) (λ i. event.HandIn (same i) (sym here i) m) (hand_twice f k n m later legal there)))
      (λ (else : j ≡ k → ⊥).
      inl (hand_before (event.HandIn f k n) g j m (other_pieces_stay round pieces g j (event.HandIn f k n) core refl (λ is. let again : j ≡ k = cc in else again))
      (λ is. let again : j ≡ k = cc in else again) may))
      (cases_eq j k))
      (λ (else : f ≡ g → ⊥).
      inl (hand_before (event.HandIn f k n) g j m (elsewhere (event.HandIn f k n) f g j refl else) (λ is. let again : f ≡ g = cc in else again) may))
      (cases_eq f g)
  hand_allowed (event.Shut f) g j m later legal may = ⊎_elim
      (λ (same : f ≡ g).
      let there : may_hand_in (outputs_of model f) (work_of (next (event.Shut f)) f j) m ≡ true =
      subst (λ h. may_hand_in (outputs_of model h) (work_of (next (event.Shut f)) h j) m ≡ true) (sym same) may in
      absurd (false≢true (sym (ap (λ o. may_hand_in (outputs_of model f) o m) (no_piece f j legal)) ∙ there)))
      (λ (else : f ≡ g → ⊥). inl (hand_before (event.Shut f) g j m (elsewhere (event.Shut f) f g j refl else) (λ is. cc) may))
      (cases_eq f g)
  hand_allowed (event.Freeze n) g j m later legal may = inl (may, λ is. cc)

  -- ---- a function may be shut

  shut_old : (e : Event) (g : ℕ) → (its_function e ≡ Some g → ⊥) → may_shut (outputs_of model g) (status_of (next e) g) ≡ true → Old e (event.Shut g)
  shut_old e g else may =
      (sym (ap (may_shut (outputs_of model g)) (other_functions_stay round pieces g e core else)) ∙ may, λ is. else (sym (ap its_function is)))

  -- a function that was just opened may be shut where it has no piece
  new_shuts : (f : ℕ) → is_legal model core (event.Open f) ≡ true → may_shut (outputs_of model f) (status_of (next (event.Open f)) f) ≡ true
      → works_of (status_of (next (event.Open f)) f) ≡ []
  new_shuts f legal may =
      let was = opened_is round pieces core f kept legal in
      let over = (may_shut_is (outputs_of model f) (status_of (next (event.Open f)) f) may).1 in
      go was.works was.left (ap works_of was.is) over
    where
      go : (works : List Work) → Each (λ work. has_left work ≡ true) works → works_of (status_of (next (event.Open f)) f) ≡ works
          → list_all (is_over (outputs_of model f)) (works_of (status_of (next (event.Open f)) f)) ≡ true → works_of (status_of (next (event.Open f)) f) ≡ []
      go [] left is over = is
      go (work ∷ works) left is over =
          let outs = outputs_of model f in
          let all : list_all (is_over outs) (work ∷ works) ≡ true = sym (ap (list_all (is_over outs)) is) ∙ over in
          absurd (true≢false (sym left.0 ∙ none_left outs work (and_parts (is_over outs work) (list_all (is_over outs) works) all).0))

  -- where an agent of a piece just ran, its function may be shut where it has no outputs
  ran_shuts : (f k : ℕ) → is_legal model core (event.Agent f k) ≡ true → may_shut (outputs_of model f) (status_of (next (event.Agent f k)) f) ≡ true → outputs_of model f ≡ []
  ran_shuts f k legal may = go (outputs_of model f) refl
    where
      go : (outs : List ℕ) → outputs_of model f ≡ outs → outputs_of model f ≡ []
      go [] is = is
      go (output ∷ rest) is =
          let outs = outputs_of model f in
          let ran = ran_is round pieces core f k kept legal in
          let new = with_agent round f ran.work ran.memory ran.outcome in
          let fine = each_at (KeptWork outs) (works_of (status_of core f)) k ran.work (kept.works f).each ran.there in
          let within : is_in output outs ≡ true = ap (is_in output) is ∙ is_in-self output rest in
          let over = over_at outs (next (event.Agent f k)) f k new may ran.changed.there in
          let none = (and_parts (not (has_left new)) (list_all (λ m. is_none (part_in outs new.parts m)) outs) over).1 in
          let gone = all_of_list (λ m. is_none (part_in outs new.parts m)) outs output none within in
          let some = kept_part outs ran.work.parts output fine.long (fine.left ran.left) within in
          absurd (still_some (part_in outs ran.work.parts output) (sent_by ran.outcome) output some (sym (ap is_none (part_in-with_sent outs (sent_by ran.outcome) ran.work.parts output within)) ∙ gone))

  shut_allowed : (e : Event) (g : ℕ) → is_legal model core e ≡ true → may_shut (outputs_of model g) (status_of (next e) g) ≡ true → Answer e (event.Shut g)
  shut_allowed (event.Open f) g legal may = ⊎_elim
      (λ (same : f ≡ g).
      inr (inr (ap event.Shut (sym same), new_shuts f legal (subst (λ h. may_shut (outputs_of model h) (status_of (next (event.Open f)) h) ≡ true) (sym same) may))))
      (λ (else : f ≡ g → ⊥). inl (shut_old (event.Open f) g (λ is. let again : f ≡ g = cc in else again) may))
      (cases_eq f g)
  shut_allowed (event.Agent f k) g legal may = ⊎_elim
      (λ (same : f ≡ g).
      inr (inr (inr (ap event.Shut (sym same), ran_shuts f k legal (subst (λ h. may_shut (outputs_of model h) (status_of (next (event.Agent f k)) h) ≡ true) (sym same) may)))))
      (λ (else : f ≡ g → ⊥). inl (shut_old (event.Agent f k) g (λ is. let again : f ≡ g = cc in else again) may))
      (cases_eq f g)
  shut_allowed (event.HandIn f k m) g legal may = ⊎_elim
      (λ (same : f ≡ g). inr (ap event.Shut (sym same)))
      (λ (else : f ≡ g → ⊥). inl (shut_old (event.HandIn f k m) g (λ is. let again : f ≡ g = cc in else again) may))
      (cases_eq f g)
  shut_allowed (event.Shut f) g legal may = ⊎_elim
      (λ (same : f ≡ g).
      let there : may_shut (outputs_of model f) (status_of (next (event.Shut f)) f) ≡ true =
      subst (λ h. may_shut (outputs_of model h) (status_of (next (event.Shut f)) h) ≡ true) (sym same) may in
      absurd (false≢true (sym (ap (may_shut (outputs_of model f)) (shut_is round pieces core f legal) ∙ done_shuts (outputs_of model f) (fault_in (works_of (status_of core f)))) ∙ there)))
      (λ (else : f ≡ g → ⊥). inl (shut_old (event.Shut f) g (λ is. let again : f ≡ g = cc in else again) may))
      (cases_eq f g)
  shut_allowed (event.Freeze m) g legal may = inl (may, λ is. cc)

  -- ---- a board may be frozen

  freezes : (e : Event) (m : ℕ) → is_legal model core e ≡ true → frozen_by e ≡ Some m → is_frozen (next e) m ≡ true
  freezes (event.Open f) m legal is = cc
  freezes (event.Agent f k) m legal is = cc
  freezes (event.HandIn f k n) m legal is = cc
  freezes (event.Shut f) m legal is = cc
  freezes (event.Freeze n) m legal is =
      let same : n ≡ m = cc in
      let a = and_parts (nat_lt n (length model.messages) && not (is_frozen core n)) (are_shut core (writers model n)) legal in
      let b = and_parts (nat_lt n (length model.messages)) (not (is_frozen core n)) a.0 in
      let less : n < length core.frozen = omega (arith, ltb-true n (length model.messages) b.0, kept.marks) in
      subst (λ i. is_frozen (next (event.Freeze n)) i ≡ true) same (get_or-set_same core.frozen n true false less)

  freeze_before : (e : Event) (m : ℕ) → is_legal model core e ≡ true → ((h : ℕ) → is_in h (writers model m) ≡ true → e ≡ event.Shut h → ⊥)
      → may_freeze model (next e) m ≡ true → Old e (event.Freeze m)
  freeze_before e m legal shuts may =
      let a = and_parts _ _ may in
      let b = and_parts _ _ a.0 in
      let not_own : frozen_by e ≡ Some m → ⊥ = λ is. false≢true (sym (ap not (freezes e m legal is)) ∙ b.1) in (
        and_from (nat_lt m (length model.messages) && not (is_frozen core m)) (are_shut core (writers model m))
            (and_from (nat_lt m (length model.messages)) (not (is_frozen core m)) b.0 (sym (ap not (other_marks_stay round pieces m e core not_own)) ∙ b.1))
            (all_shut_before e (writers model m) legal shuts a.1),
        λ is. not_own (sym (ap frozen_by is)),
      )

  freeze_allowed : (e : Event) (m : ℕ) → is_legal model core e ≡ true → may_freeze model (next e) m ≡ true → Answer e (event.Freeze m)
  freeze_allowed (event.Open f) m legal may = inl (freeze_before (event.Open f) m legal (λ h within is. cc) may)
  freeze_allowed (event.Agent f k) m legal may = inl (freeze_before (event.Agent f k) m legal (λ h within is. cc) may)
  freeze_allowed (event.HandIn f k n) m legal may = inl (freeze_before (event.HandIn f k n) m legal (λ h within is. cc) may)
  freeze_allowed (event.Shut f) m legal may = ⊎_elim
      (λ (writes : is_in f (writers model m) ≡ true).
      let shut = all_of_list (λ h. is_shut (status_of (next (event.Shut f)) h)) (writers model m) f (and_parts _ _ may).1 writes in
      let output = (and_parts (nat_lt f (function_count model)) (is_in m (outputs_of model f))
      (sym (is_in-all_below (λ h. is_in m (outputs_of model h)) (function_count model) f) ∙ writes)).1 in
      inr (shut, inr (m, refl, output)))
      (λ (free : is_in f (writers model m) ≡ false).
      inl (freeze_before (event.Shut f) m legal (λ h within is. let same : f ≡ h = cc in false≢true (sym free ∙ ap (λ n. is_in n (writers model m)) same ∙ within)) may))
      (cases_Bool (is_in f (writers model m)))
  freeze_allowed (event.Freeze n) m legal may = inl (freeze_before (event.Freeze n) m legal (λ h within is. cc) may)

-- ---- every event

pub newly_legal_is_allowed : NewlyLegalIsAllowed
newly_legal_is_allowed round pieces core e (event.Open g) led legal may = open_allowed round pieces core (kept_core round pieces core led) e g legal may
newly_legal_is_allowed round pieces core e (event.Agent g j) led legal may = run_allowed round pieces core (kept_core round pieces core led) e g j legal may
newly_legal_is_allowed round pieces core e (event.HandIn g j m) led legal may =
    hand_allowed round pieces core (kept_core round pieces core led) e g j m (kept_core round pieces (after round pieces core e) (led_on round pieces core e led legal)) legal may
newly_legal_is_allowed round pieces core e (event.Shut g) led legal may = shut_allowed round pieces core (kept_core round pieces core led) e g legal may
newly_legal_is_allowed round pieces core e (event.Freeze m) led legal may = freeze_allowed round pieces core (kept_core round pieces core led) e m legal may
