-- A complete core comes to what the serial run comes to.
use Rattle.std.proofs.Common.{◌≡◌, ℕ, ◌+◌, ◌<◌, ◌≤◌, ⊎_elim, Bool, true, false, cond, List, [], ◌∷◌, take, Option, Some, None, refl, sym, ap, ◌∙◌, arith, subst, one-add}
use Rattle.std.specs.Prelude.{not, is_some}
use Rattle.std.specs.Option.{option_or}
use Rattle.std.specs.List.{filter_map, prefix_len}
use Rattle.std.proofs.lemmas.Bool.{cases_lt, and_parts, lt-ltb, le-ltb, false≢true}
use Rattle.flame_spec.specs.Before.{function_count}
use Rattle.flame_spec.specs.Below.{is_in}
use Rattle.flame_spec.specs.ModelOrder.{model_order, left_over}
use Rattle.flame_spec.proofs.Numbered.{first-cons_option}
use Rattle.flame_world.specs.declared.faults.SimFault.{SimFault}
use Rattle.flame_world.specs.Iterations.{Round, unless_faulted}
use Rattle.flame_events.specs.CoreStates.{Status, Waiting, Open, Shut, Faulted, is_waiting, is_shut, fault_of, Core, status_of}
use Rattle.flame_events.specs.LegalEvents.{outputs_of, are_shut}
use Rattle.flame_events.specs.CoreEnds.{is_faulted, unfaulted, is_complete, first_fault}
use Rattle.flame_events.proofs.Weights.{Rows}
use Rattle.flame_events.proofs.Spots.{Spot}
use Rattle.flame_events.proofs.Holding.{Ideal, Holds}
use Rattle.flame_events.proofs.Serial.{is_in-cases, order_is_whole, should_fault, first_should, all_of, HoldsAfter, is_function, IsEnd}
use Rattle.flame_events.proofs.Works.{ran_rows, handed_rows, Fits}
use Rattle.flame_events.proofs.Sound.{still_in, ran_in, handed_in, Sound, shut_ran, shut_handed, past_waiting}

-- ---- the functions before the first that is faulted

pub unfaulted-cons : (core : Core) (f : ℕ) (fs : List ℕ) → unfaulted core (f ∷ fs) ≡ cond (not (is_faulted core f)) (f ∷ unfaulted core fs) []
unfaulted-cons core f fs =
    elim (not (is_faulted core f)) as (λ t. take (cond t (1 + prefix_len (λ g. not (is_faulted core g)) fs) 0) (f ∷ fs) ≡ cond t (f ∷ unfaulted core fs) []) [
      | true ↦ ap (λ n. take n (f ∷ fs)) (one-add (prefix_len (λ g. not (is_faulted core g)) fs))
      | false ↦ refl
    ]

pub first_fault-cons : (core : Core) (f : ℕ) (fs : List ℕ) → first_fault core (f ∷ fs) ≡ option_or (fault_of (status_of core f)) (first_fault core fs)
first_fault-cons core f fs = first-cons_option (fault_of (status_of core f)) (filter_map (λ g. fault_of (status_of core g)) fs)

-- ---- where all wanted functions are shut, the first fault is the one that should be

abbrev AllShut : Core → List ℕ → Type 0
AllShut core fs = (g : ℕ) → is_in g fs ≡ true → is_shut (status_of core g) ≡ true

record Agrees (round : Round) (t : Ideal) (core : Core) (fs : List ℕ) : Type 0 where
  pub fault : first_fault core fs ≡ first_should round t fs
  pub shut : first_fault core fs ≡ None → AllShut core fs

none_some : (x : SimFault) (o : Option SimFault) → option_or (Some x) o ≡ None → ⊥
none_some x o e = cc

agrees_by : (round : Round) (start : Spot → Rows) (t : Ideal) (core : Core) (f : ℕ) (fs : List ℕ) → Sound round start t core
    → (are_shut core (unfaulted core fs) ≡ true → Agrees round t core fs)
    → (status : Status) → status_of core f ≡ status
    → are_shut core (cond (not (is_some (fault_of status))) (f ∷ unfaulted core fs) []) ≡ true
    → Agrees round t core (f ∷ fs)
agrees_by round start t core f fs h more Waiting is shut =
    let both = and_parts (is_shut (status_of core f)) (are_shut core (unfaulted core fs)) shut in
    absurd (false≢true (ap is_shut (sym is) ∙ both.0))
agrees_by round start t core f fs h more (Open works) is shut =
    let both = and_parts (is_shut (status_of core f)) (are_shut core (unfaulted core fs)) shut in
    absurd (false≢true (ap is_shut (sym is) ∙ both.0))
agrees_by round start t core f fs h more Shut is shut =
    let both = and_parts (is_shut (status_of core f)) (are_shut core (unfaulted core fs)) shut in
    let rest = more both.1 in
    let own : should_fault round t f ≡ None = subst (Fits round t f) is (h.fits f) in
    let here : first_fault core (f ∷ fs) ≡ first_fault core fs = first_fault-cons core f fs ∙ ap (λ s. option_or (fault_of s) (first_fault core fs)) is in
    record {
      fault = here ∙ rest.fault ∙ ap (λ o. option_or o (first_should round t fs)) (sym own);
      shut = λ none g within. ⊎_elim
          (λ (same : g ≡ f). ap (λ k. is_shut (status_of core k)) same ∙ both.0)
          (λ (later : is_in g fs ≡ true). rest.shut (sym here ∙ none) g later)
          (is_in-cases g f fs within);
    }
agrees_by round start t core f fs h more (Faulted x) is shut =
    let own : should_fault round t f ≡ Some x = subst (Fits round t f) is (h.fits f) in
    let here : first_fault core (f ∷ fs) ≡ Some x = first_fault-cons core f fs ∙ ap (λ s. option_or (fault_of s) (first_fault core fs)) is in
    record {
      fault = here ∙ ap (λ o. option_or o (first_should round t fs)) (sym own);
      shut = λ none. absurd (none_some x None (sym here ∙ none));
    }

agrees : (round : Round) (start : Spot → Rows) (t : Ideal) (core : Core) (fs : List ℕ) → Sound round start t core
    → are_shut core (unfaulted core fs) ≡ true → Agrees round t core fs
agrees round start t core [] h shut = record { fault = refl; shut = λ none g within. absurd (false≢true within) }
agrees round start t core (f ∷ fs) h shut =
    agrees_by round start t core f fs h (agrees round start t core fs h) (status_of core f) refl
    (ap (are_shut core) (sym (unfaulted-cons core f fs)) ∙ shut)

-- ---- the field where all functions are shut

shut_waits : (status : Status) → is_shut status ≡ true → is_waiting status ≡ false
shut_waits Waiting shut = absurd (false≢true shut)
shut_waits (Open works) shut = refl
shut_waits Shut shut = refl
shut_waits (Faulted fault) shut = refl

pub all_shut : (round : Round) (start : Spot → Rows) (t : Ideal) (core : Core) → Sound round start t core
    → ((g : ℕ) → g < function_count round.source.model → is_shut (status_of core g) ≡ true)
    → HoldsAfter round start t (is_function round) core.field
all_shut round start t core h shut =
    let model = round.source.model in
    let n = function_count model in
    let tables = λ (P : Status → Bool → Type 0) (one : (s : Status) → is_shut s ≡ true → P s true) (other : P Waiting false) (g : ℕ).
    ⊎_elim
    (λ (less : g < n). subst (P (status_of core g)) (sym (lt-ltb g n less)) (one (status_of core g) (shut g less)))
    (λ (over : n ≤ g). subst (P (status_of core g)) (sym (le-ltb g n over))
    (subst (λ s. P s false) (sym (past_waiting core.statuses g (omega (arith, over, h.long)))) other))
    (cases_lt g n) in
    let still : still_in core ≡ (λ g. not (is_function round g)) =
    λ i g. tables (λ s b. is_waiting s ≡ not b) (λ s e. shut_waits s e) refl g i in
    let ran : ran_in t core ≡ all_of t (is_function round) =
    λ i g. tables (λ s b. ran_rows (t.agents g) s ≡ cond b (t.agents g) []) (λ s e. shut_ran (t.agents g) s e) refl g i in
    let handed : handed_in model t core ≡ (λ m. all_of t (is_function round)) =
    λ i m g. tables (λ s b. handed_rows (outputs_of model g) m (t.agents g) s ≡ cond b (t.agents g) []) (λ s e. shut_handed (outputs_of model g) m (t.agents g) s e) refl g i in
    subst (λ (x : ℕ → Bool). Holds round start t core.field x (all_of t (is_function round)) (λ m. all_of t (is_function round))) still
    (subst (λ (y : ℕ → Rows). Holds round start t core.field (still_in core) y (λ m. all_of t (is_function round))) ran
    (subst (λ (z : ℕ → ℕ → Rows). Holds round start t core.field (still_in core) (ran_in t core) z) handed h.holds))

-- ---- the end

pub core_end : (round : Round) (start : Spot → Rows) (t : Ideal) (core : Core) → Sound round start t core
    → left_over round.source.model ≡ None → is_complete round.source.model core ≡ true
    → IsEnd round start t (first_should round t (model_order round.source.model)) (unless_faulted (first_fault core (model_order round.source.model)) core.field)
core_end round start t core h none complete =
    let model = round.source.model in
    let same = agrees round start t core (model_order model) h complete in
    by (first_fault core (model_order model)) refl same
  where
    by : (o : Option SimFault) → first_fault core (model_order round.source.model) ≡ o → Agrees round t core (model_order round.source.model)
        → IsEnd round start t (first_should round t (model_order round.source.model)) (unless_faulted o core.field)
    by None is same = (sym same.fault ∙ is, all_shut round start t core h (λ g less. same.shut is g (order_is_whole round.source.model none g less)))
    by (Some x) is same = sym same.fault ∙ is
