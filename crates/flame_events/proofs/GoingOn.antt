-- A core that is not complete has a legal event that brings a wanted function on.
use Rattle.std.proofs.Common.{◌≡◌, ℕ, suc, ◌<◌, ⊎_elim, Bool, true, false, cond, List, [], ◌∷◌, length, Option, Some, None, refl, sym, ap, ◌∙◌}
use Rattle.std.specs.Prelude.{not, ◌&&◌, nat_lt, slice_get, is_some, is_none}
use Rattle.std.specs.List.{list_all}
use Rattle.std.proofs.lemmas.Bool.{cases_Bool, and_from, and_cases, lt-ltb, ltb-true, and_parts, true≢false, false≢true}
use Rattle.std.proofs.lemmas.Option.{slice_get_within}
use Rattle.flame_rows.proofs.Lists.{slice_get-some}
use Rattle.flame_spec.specs.declared.models.Model.{Model}
use Rattle.flame_spec.specs.Before.{before, function_count}
use Rattle.flame_spec.specs.Below.{all_below, is_in}
use Rattle.flame_spec.specs.Functions.{functions}
use Rattle.flame_spec.specs.ModelOrder.{model_order}
use Rattle.flame_spec.proofs.FirstBelow.{is_in-all_below}
use Rattle.flame_events.specs.declared.events.Event.TheVariants as event
use Rattle.flame_events.specs.CoreStates.{Work, Status, Waiting, Open, Shut, Faulted, is_waiting, is_shut, fault_of, works_of, has_left, part_in, Core, status_of, work_of, is_frozen}
use Rattle.flame_events.specs.LegalEvents.{inputs_at, inputs_of, outputs_of, are_shut, may_run, may_hand_in, is_over, may_shut}
use Rattle.flame_events.specs.CoreEnds.{is_faulted, unfaulted, is_complete}
use Rattle.flame_events.specs.EveryOrder.{CanGoOn}
use Rattle.flame_events.proofs.Spots.{input_named, writes_before}
use Rattle.flame_events.proofs.Serial.{is_in-self, is_in-later, is_in-cases, IsOrdered, order_is_ordered}
use Rattle.flame_events.proofs.Ends.{unfaulted-cons}

-- ---- the first wanted function that is not shut

abbrev waits_or_goes : Status → Bool
waits_or_goes Waiting = true
waits_or_goes (Open works) = true
waits_or_goes Shut = false
waits_or_goes (Faulted fault) = false

record IsFirst (model : Model) (core : Core) (fs : List ℕ) (f : ℕ) : Type 0 where
  pub below : f < function_count model
  pub earlier : (g : ℕ) → g < function_count model → before model g f ≡ true → is_shut (status_of core g) ≡ true
  pub going : waits_or_goes (status_of core f) ≡ true
  pub wants : is_in f (unfaulted core fs) ≡ true

abbrev HasFirst : Model → Core → List ℕ → Type 0
HasFirst model core fs = (f : ℕ) × IsFirst model core fs f

-- it is this one, or one of the later ones
here : (model : Model) (core : Core) (done fs : List ℕ) (f : ℕ) → IsOrdered model done (f ∷ fs)
    → ((g : ℕ) → is_in g done ≡ true → is_shut (status_of core g) ≡ true)
    → waits_or_goes (status_of core f) ≡ true → is_faulted core f ≡ false → HasFirst model core (f ∷ fs)
here model core done fs f ordered shut going unfaulted_f = (
  f,
  record {
    below = ordered.1;
    earlier = λ g less stands. shut g (ordered.2 g less stands);
    going = going;
    wants = ap (is_in f) (unfaulted-cons core f fs ∙ ap (λ b. cond (not b) (f ∷ unfaulted core fs) []) unfaulted_f) ∙ is_in-self f (unfaulted core fs);
  },
)

first_by : (model : Model) (core : Core) (done fs : List ℕ) (f : ℕ) → IsOrdered model done (f ∷ fs)
    → ((g : ℕ) → is_in g done ≡ true → is_shut (status_of core g) ≡ true)
    → (is_shut (status_of core f) ≡ true → are_shut core (unfaulted core fs) ≡ false → HasFirst model core fs)
    → (status : Status) → status_of core f ≡ status
    → are_shut core (cond (not (is_some (fault_of status))) (f ∷ unfaulted core fs) []) ≡ false
    → HasFirst model core (f ∷ fs)
first_by model core done fs f ordered shut more Waiting is open_yet =
    here model core done fs f ordered shut (ap waits_or_goes is) (ap (λ s. is_some (fault_of s)) is)
first_by model core done fs f ordered shut more (Open works) is open_yet =
    here model core done fs f ordered shut (ap waits_or_goes is) (ap (λ s. is_some (fault_of s)) is)
first_by model core done fs f ordered shut more Shut is open_yet =
    let own : is_shut (status_of core f) ≡ true = ap is_shut is in
    let rest : are_shut core (unfaulted core fs) ≡ false = sym (ap (λ b. b && are_shut core (unfaulted core fs)) own) ∙ open_yet in
    let next = more own rest in (
      next.0,
      record {
        below = next.1.below;
        earlier = next.1.earlier;
        going = next.1.going;
        wants =
            ap (is_in next.0) (unfaulted-cons core f fs ∙ ap (λ s. cond (not (is_some (fault_of s))) (f ∷ unfaulted core fs) []) is)
            ∙ is_in-later next.0 f (unfaulted core fs) next.1.wants;
      },
    )
first_by model core done fs f ordered shut more (Faulted fault) is open_yet = absurd (true≢false open_yet)

first_wanted : (model : Model) (core : Core) (done fs : List ℕ) → IsOrdered model done fs
    → ((g : ℕ) → is_in g done ≡ true → is_shut (status_of core g) ≡ true)
    → are_shut core (unfaulted core fs) ≡ false → HasFirst model core fs
first_wanted model core done [] ordered shut open_yet = absurd (true≢false open_yet)
first_wanted model core done (f ∷ fs) ordered shut open_yet =
    first_by model core done fs f ordered shut
    (λ own rest. first_wanted model core (f ∷ done) fs ordered.3
    (λ g within. ⊎_elim
    (λ (same : g ≡ f). ap (λ k. is_shut (status_of core k)) same ∙ own)
    (λ (old : is_in g done ≡ true). shut g old)
    (is_in-cases g f done within))
    rest)
    (status_of core f) refl
    (ap (are_shut core) (sym (unfaulted-cons core f fs)) ∙ open_yet)

-- ---- tests of lists

pub list_all-is_in : (test : ℕ → Bool) (numbers : List ℕ) → ((n : ℕ) → is_in n numbers ≡ true → test n ≡ true) → list_all test numbers ≡ true
list_all-is_in test [] each = refl
list_all-is_in test (n ∷ numbers) each =
    and_from (test n) (list_all test numbers) (each n (is_in-self n numbers)) (list_all-is_in test numbers (λ k within. each k (is_in-later k n numbers within)))

-- all numbers below that pass a test are shut, where each is
all_shut_below : (core : Core) (test : ℕ → Bool) (n : ℕ) → ((g : ℕ) → g < n → test g ≡ true → is_shut (status_of core g) ≡ true) → are_shut core (all_below test n) ≡ true
all_shut_below core test n each =
    list_all-is_in (λ g. is_shut (status_of core g)) (all_below test n)
    (λ g within.
    let both = and_parts (nat_lt g n) (test g) (sym (is_in-all_below test n g) ∙ within) in
    each g (ltb-true g n both.0) both.1)

one_fails : (test : ℕ → Bool) (numbers : List ℕ) → list_all test numbers ≡ false → (n : ℕ) × (is_in n numbers ≡ true) × (test n ≡ false)
one_fails test [] fails = absurd (true≢false fails)
one_fails test (n ∷ numbers) fails = ⊎_elim
    (λ (e : test n ≡ false). (n, is_in-self n numbers, e))
    (λ (e : list_all test numbers ≡ false). let found = one_fails test numbers e in (found.0, is_in-later found.0 n numbers found.1, found.2))
    (and_cases (test n) (list_all test numbers) fails)

work_fails : (outs : List ℕ) (works : List Work) → list_all (is_over outs) works ≡ false → (k : ℕ) × (work : Work) × (slice_get works k ≡ Some work) × (is_over outs work ≡ false)
work_fails outs [] fails = absurd (true≢false fails)
work_fails outs (work ∷ works) fails = ⊎_elim
    (λ (e : is_over outs work ≡ false). (0, work, refl, e))
    (λ (e : list_all (is_over outs) works ≡ false). let found = work_fails outs works e in (suc found.0, found.1, found.2, found.3))
    (and_cases (is_over outs work) (list_all (is_over outs) works) fails)

some_since : {X : Type 0} (o : Option X) → is_none o ≡ false → is_some o ≡ true
some_since None none = absurd (true≢false none)
some_since (Some x) none = refl

-- ---- it can go on

module _ (model : Model) (core : Core) (f : ℕ) (first : IsFirst model core (model_order model) f) where
  if_waiting : status_of core f ≡ Waiting → CanGoOn model core
  if_waiting is = ⊎_elim
      (λ (fed : list_all (is_frozen core) (inputs_of model f) ≡ true). (
        event.Open f,
        and_from _ _ (and_from _ _ (and_from _ _ (lt-ltb f (function_count model) first.below) (ap is_waiting is))
            (all_shut_below core (λ g. before model g f) (function_count model) first.earlier)) fed,
        first.wants,
      ))
      (λ (unfed : list_all (is_frozen core) (inputs_of model f) ≡ false).
      let found = one_fails (is_frozen core) (inputs_of model f) unfed in
      let m = found.0 in
      let place = slice_get-some (functions model) f first.below in
      let input = input_named model place.0 m (sym (ap (λ o. is_in m (inputs_at o model)) place.1) ∙ found.1) in
      let less : m < length model.messages = slice_get_within model.messages m input.named.message input.named.there in (
        event.Freeze m,
        and_from _ _ (and_from _ _ (lt-ltb m (length model.messages) less) (ap not found.2))
            (all_shut_below core (λ g. is_in m (outputs_of model g)) (function_count model)
            (λ g gl writes. first.earlier g gl (writes_before model g f m gl first.below writes found.1))),
        (f, first.wants, found.1),
      ))
      (cases_Bool (list_all (is_frozen core) (inputs_of model f)))

  if_piece : (k : ℕ) (work : Work) → work_of core f k ≡ Some work → is_over (outputs_of model f) work ≡ false → CanGoOn model core
  if_piece k work at unfinished = ⊎_elim
      (λ (left : has_left work ≡ true). (event.Agent f k, ap may_run at ∙ left, first.wants))
      (λ (none : has_left work ≡ false).
      ⊎_elim
      (λ (e : not (has_left work) ≡ false). absurd (false≢true (sym e ∙ ap not none)))
      (λ (e : list_all (λ m. is_none (part_in (outputs_of model f) work.parts m)) (outputs_of model f) ≡ false).
      let found = one_fails (λ m. is_none (part_in (outputs_of model f) work.parts m)) (outputs_of model f) e in (
        event.HandIn f k found.0,
        ap (λ o. may_hand_in (outputs_of model f) o found.0) at
            ∙ and_from (not (has_left work)) (is_some (part_in (outputs_of model f) work.parts found.0)) (ap not none)
            (some_since (part_in (outputs_of model f) work.parts found.0) found.2),
        first.wants,
      ))
      (and_cases (not (has_left work)) (list_all (λ m. is_none (part_in (outputs_of model f) work.parts m)) (outputs_of model f)) unfinished))
      (cases_Bool (has_left work))

  if_open : (works : List Work) → status_of core f ≡ Open works → CanGoOn model core
  if_open works is = ⊎_elim
      (λ (over : list_all (is_over (outputs_of model f)) works ≡ true). (event.Shut f, ap (may_shut (outputs_of model f)) is ∙ over, first.wants))
      (λ (unfinished : list_all (is_over (outputs_of model f)) works ≡ false).
      let found = work_fails (outputs_of model f) works unfinished in
      if_piece found.0 found.1 (ap (λ s. slice_get (works_of s) found.0) is ∙ found.2) found.3)
      (cases_Bool (list_all (is_over (outputs_of model f)) works))

  goes_on : (status : Status) → status_of core f ≡ status → CanGoOn model core
  goes_on Waiting is = if_waiting is
  goes_on (Open works) is = if_open works is
  goes_on Shut is = absurd (false≢true (ap waits_or_goes (sym is) ∙ first.going))
  goes_on (Faulted fault) is = absurd (false≢true (ap waits_or_goes (sym is) ∙ first.going))

pub can_go_on : (model : Model) (core : Core) → is_complete model core ≡ false → CanGoOn model core
can_go_on model core unfinished =
    let found = first_wanted model core [] (model_order model) (order_is_ordered model) (λ g within. absurd (false≢true within)) unfinished in
    goes_on model core found.0 found.1 (status_of core found.0) refl
