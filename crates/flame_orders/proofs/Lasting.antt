-- What is legal stays so until it comes.
use Rattle.std.proofs.Common.{◌≡◌, ℕ, zero, suc, ◌⊎◌, inl, inr, ⊎_elim, Bool, true, false, List, [], ◌∷◌, ◌++◌, Option, Some, None, refl, sym, ap, ◌∙◌, subst, get_or-set_same}
use Rattle.std.specs.Prelude.{◌&&◌, nat_lt, not, is_some, is_none, slice_get, slice_set, slice_index_or, length}
use Rattle.std.specs.List.{list_all}
use Rattle.std.proofs.lemmas.Bool.{and_parts, and_from, cases_eq, true≢false, false≢true, not-true}
use Rattle.flame_rows.proofs.Lists.{list_all-at, slice_get-slice_set}
use Rattle.flame_spec.specs.declared.models.Model.{Model}
use Rattle.flame_spec.specs.Before.{function_count}
use Rattle.flame_meaning.proofs.Eachs.{each_at}
use Rattle.flame_world.specs.Iterations.{Round}
use Rattle.flame_events.specs.declared.events.Event.{Event}
use Rattle.flame_events.specs.declared.events.Event.TheVariants as event
use Rattle.flame_events.specs.CoreLaws.{EventsLeadTo}
use Rattle.flame_events.specs.CoreStates.{Work, Waiting, Open, is_waiting, is_shut, fault_of, works_of, has_left, part_in, Core, status_of, work_of, is_frozen, opening_core}
use Rattle.flame_events.specs.LegalEvents.{predecessors, inputs_of, outputs_of, writers, are_shut, may_open, may_run, may_hand_in, may_shut, may_freeze, is_over, is_legal}
use Rattle.flame_events.specs.EventSteps.{joined_board, handed_in, after, are_legal}
use Rattle.flame_events.proofs.Weights.{Rows}
use Rattle.flame_events.proofs.Works.{all_of_list, kept_is_output, without, part_in-without-else}
use Rattle.flame_events.proofs.Sound.{both_wait, waiting_is, can_open, opens_with}
use Rattle.flame_events.proofs.Legality.{may_shut_is, each_also}
use Rattle.flame_events.proofs.CoreWidths.{status_below}
use Rattle.flame_events.proofs.Growing.{histories_grow}
use Rattle.flame_events.proofs.KeptCores.{KeptWork, KeptCore, kept_core}
use Rattle.flame_orders.specs.LastingLegality.{LegalityLasts, LegalityLastsLong}
use Rattle.flame_orders.specs.UntouchedParts.{its_function, its_piece, frozen_by}
use Rattle.flame_orders.proofs.Untouched.{other_functions_stay, other_pieces_stay, other_marks_stay}

-- ---- what a legal event finds

abbrev pub IsOpen : Core → ℕ → Type 0
IsOpen core f = status_of core f ≡ Open (works_of (status_of core f))

pub record Runs (core : Core) (f k : ℕ) : Type 0 where
  pub work : Work
  pub there : work_of core f k ≡ Some work
  pub left : has_left work ≡ true

pub runs : (core : Core) (f k : ℕ) → may_run (work_of core f k) ≡ true → Runs core f k
runs core f k legal = go (work_of core f k) refl legal
  where
    go : (o : Option Work) → work_of core f k ≡ o → may_run o ≡ true → Runs core f k
    go None is may = absurd (false≢true may)
    go (Some work) is may = record { work = work; there = is; left = may }

pub record Hands (outs : List ℕ) (core : Core) (f k m : ℕ) : Type 0 where
  pub work : Work
  pub there : work_of core f k ≡ Some work
  pub over : has_left work ≡ false
  pub part : is_some (part_in outs work.parts m) ≡ true

pub hands : (outs : List ℕ) (core : Core) (f k m : ℕ) → may_hand_in outs (work_of core f k) m ≡ true → Hands outs core f k m
hands outs core f k m legal = go (work_of core f k) refl legal
  where
    go : (o : Option Work) → work_of core f k ≡ o → may_hand_in outs o m ≡ true → Hands outs core f k m
    go None is may = absurd (false≢true may)
    go (Some work) is may =
        let both = and_parts (not (has_left work)) (is_some (part_in outs work.parts m)) may in
        record { work = work; there = is; over = not-true (has_left work) both.0; part = both.1 }

-- an event of a function finds it open, but where it opens it
pub finds_open : (model : Model) (core : Core) (e : Event) (f : ℕ) → is_legal model core e ≡ true → its_function e ≡ Some f → (e ≡ event.Open f → ⊥) → IsOpen core f
finds_open model core (event.Open g) f legal is else = let same : g ≡ f = cc in absurd (else (ap event.Open same))
finds_open model core (event.Agent g k) f legal is else =
    let same : g ≡ f = cc in
    let found = runs core g k legal in
    subst (IsOpen core) same (opens_with (status_of core g) k found.work found.there)
finds_open model core (event.HandIn g k m) f legal is else =
    let same : g ≡ f = cc in
    let found = hands (outputs_of model g) core g k m legal in
    subst (IsOpen core) same (opens_with (status_of core g) k found.work found.there)
finds_open model core (event.Shut g) f legal is else =
    let same : g ≡ f = cc in subst (IsOpen core) same (may_shut_is (outputs_of model g) (status_of core g) legal).0
finds_open model core (event.Freeze m) f legal is else = absurd cc

-- and where it opens it, waiting: not done
finds_undone : (model : Model) (core : Core) (e : Event) (f : ℕ) → is_legal model core e ≡ true → its_function e ≡ Some f
    → (is_waiting (status_of core f) ≡ true) ⊎ IsOpen core f
finds_undone model core (event.Open g) f legal is =
    let same : g ≡ f = cc in inl (sym (ap (λ h. is_waiting (status_of core h)) same) ∙ (can_open model core g legal).waits)
finds_undone model core (event.Agent g k) f legal is = inr (finds_open model core (event.Agent g k) f legal is (λ e. cc))
finds_undone model core (event.HandIn g k m) f legal is = inr (finds_open model core (event.HandIn g k m) f legal is (λ e. cc))
finds_undone model core (event.Shut g) f legal is = inr (finds_open model core (event.Shut g) f legal is (λ e. cc))
finds_undone model core (event.Freeze m) f legal is = absurd cc

finds_unshut : (model : Model) (core : Core) (e : Event) (f : ℕ) → is_legal model core e ≡ true → its_function e ≡ Some f → is_shut (status_of core f) ≡ true → ⊥
finds_unshut model core e f legal is shut = ⊎_elim
    (λ (waits : is_waiting (status_of core f) ≡ true). both_wait (status_of core f) waits shut)
    (λ (opens : IsOpen core f). false≢true (sym (ap is_shut opens) ∙ shut))
    (finds_undone model core e f legal is)

pub finds_faultless : (model : Model) (core : Core) (e : Event) (f : ℕ) → is_legal model core e ≡ true → its_function e ≡ Some f → fault_of (status_of core f) ≡ None
finds_faultless model core e f legal is = ⊎_elim
    (λ (waits : is_waiting (status_of core f) ≡ true). ap fault_of (waiting_is (status_of core f) waits))
    (λ (opens : IsOpen core f). ap fault_of opens)
    (finds_undone model core e f legal is)

-- ---- what stays, stays

pub shut_lasts : (round : Round) (pieces : ℕ) (core : Core) (e : Event) (g : ℕ) → is_legal round.source.model core e ≡ true
    → is_shut (status_of core g) ≡ true → is_shut (status_of (after round pieces core e) g) ≡ true
shut_lasts round pieces core e g legal shut =
    ap is_shut (other_functions_stay round pieces g e core (λ is. finds_unshut round.source.model core e g legal is shut)) ∙ shut

all_shut_last : (round : Round) (pieces : ℕ) (core : Core) (e : Event) (numbers : List ℕ) → is_legal round.source.model core e ≡ true
    → are_shut core numbers ≡ true → are_shut (after round pieces core e) numbers ≡ true
all_shut_last round pieces core e numbers legal all =
    each_also (λ g. is_shut (status_of core g)) (λ g. is_shut (status_of (after round pieces core e) g)) numbers (λ g shut. shut_lasts round pieces core e g legal shut) all

stays_marked : (marks : List Bool) (n m : ℕ) → slice_index_or marks m false ≡ true → slice_index_or (slice_set marks n true) m false ≡ true
stays_marked [] n m at = at
stays_marked (mark ∷ marks) zero zero at = refl
stays_marked (mark ∷ marks) zero (suc m) at = at
stays_marked (mark ∷ marks) (suc n) zero at = at
stays_marked (mark ∷ marks) (suc n) (suc m) at = stays_marked marks n m at

pub frozen_lasts : (round : Round) (pieces : ℕ) (core : Core) (e : Event) (m : ℕ) → is_frozen core m ≡ true → is_frozen (after round pieces core e) m ≡ true
frozen_lasts round pieces core (event.Open f) m at = other_marks_stay round pieces m (event.Open f) core (λ is. cc) ∙ at
frozen_lasts round pieces core (event.Agent f k) m at = other_marks_stay round pieces m (event.Agent f k) core (λ is. cc) ∙ at
frozen_lasts round pieces core (event.HandIn f k n) m at = other_marks_stay round pieces m (event.HandIn f k n) core (λ is. cc) ∙ at
frozen_lasts round pieces core (event.Shut f) m at = at
frozen_lasts round pieces core (event.Freeze n) m at = stays_marked core.frozen n m at

-- ---- a function may still be opened

open_lasts : (round : Round) (pieces : ℕ) (core : Core) (e : Event) (g : ℕ) → is_legal round.source.model core e ≡ true
    → may_open round.source.model core g ≡ true → (event.Open g ≡ e → ⊥) → may_open round.source.model (after round pieces core e) g ≡ true
open_lasts round pieces core e g legal may apart =
    let model = round.source.model in
    let next = after round pieces core e in
    let a = and_parts _ _ may in
    let b = and_parts _ _ a.0 in
    let c = and_parts _ _ b.0 in
    let same = other_functions_stay round pieces g e core
    (λ is. true≢false (sym c.1 ∙ ap is_waiting (finds_open model core e g legal is (λ opens. apart (sym opens))))) in
    and_from (nat_lt g (function_count model) && is_waiting (status_of next g) && are_shut next (predecessors model g)) (list_all (is_frozen next) (inputs_of model g))
    (and_from (nat_lt g (function_count model) && is_waiting (status_of next g)) (are_shut next (predecessors model g))
    (and_from (nat_lt g (function_count model)) (is_waiting (status_of next g)) c.0 (ap is_waiting same ∙ c.1))
    (all_shut_last round pieces core e (predecessors model g) legal b.1))
    (each_also (is_frozen core) (is_frozen next) (inputs_of model g) (λ m at. frozen_lasts round pieces core e m at) a.1)

-- ---- a piece that an event does not change

piece_lasts : (round : Round) (pieces : ℕ) (core : Core) (e : Event) (g j : ℕ) (work : Work) → is_legal round.source.model core e ≡ true
    → work_of core g j ≡ Some work → (its_function e ≡ Some g → its_piece e ≡ Some j → ⊥) → (e ≡ event.Shut g → ⊥)
    → work_of (after round pieces core e) g j ≡ work_of core g j
piece_lasts round pieces core (event.Open f) g j work legal at apart shut =
    ap (λ s. slice_get (works_of s) j) (other_functions_stay round pieces g (event.Open f) core
    (λ is. let same : f ≡ g = cc in
    true≢false (sym (can_open round.source.model core f legal).waits ∙ ap (λ h. is_waiting (status_of core h)) same ∙ ap is_waiting (opens_with (status_of core g) j work at))))
piece_lasts round pieces core (event.Agent f k) g j work legal at apart shut = ⊎_elim
    (λ (same : j ≡ k). ap (λ s. slice_get (works_of s) j) (other_functions_stay round pieces g (event.Agent f k) core (λ is. apart is (ap Some (sym same)))))
    (λ (else : j ≡ k → ⊥). other_pieces_stay round pieces g j (event.Agent f k) core refl (λ is. else cc))
    (cases_eq j k)
piece_lasts round pieces core (event.HandIn f k m) g j work legal at apart shut = ⊎_elim
    (λ (same : j ≡ k). ap (λ s. slice_get (works_of s) j) (other_functions_stay round pieces g (event.HandIn f k m) core (λ is. apart is (ap Some (sym same)))))
    (λ (else : j ≡ k → ⊥). other_pieces_stay round pieces g j (event.HandIn f k m) core refl (λ is. else cc))
    (cases_eq j k)
piece_lasts round pieces core (event.Shut f) g j work legal at apart shut =
    ap (λ s. slice_get (works_of s) j) (other_functions_stay round pieces g (event.Shut f) core (λ is. let same : f ≡ g = cc in shut (ap event.Shut same)))
piece_lasts round pieces core (event.Freeze m) g j work legal at apart shut = refl

-- where a function may be shut, a piece of it is over
pub over_at : (outs : List ℕ) (core : Core) (f k : ℕ) (work : Work) → may_shut outs (status_of core f) ≡ true → work_of core f k ≡ Some work → is_over outs work ≡ true
over_at outs core f k work may at = list_all-at (is_over outs) (works_of (status_of core f)) k work (may_shut_is outs (status_of core f) may).1 at

pub none_left : (outs : List ℕ) (work : Work) → is_over outs work ≡ true → has_left work ≡ false
none_left outs work over = not-true (has_left work) (and_parts (not (has_left work)) (list_all (λ m. is_none (part_in outs work.parts m)) outs) over).0

-- and has no part that can be handed in
no_part_left : (outs : List ℕ) (work : Work) (m : ℕ) → length work.parts ≡ length outs → is_over outs work ≡ true → is_some (part_in outs work.parts m) ≡ true → ⊥
no_part_left outs work m long over some = go (part_in outs work.parts m) refl some
  where
    go : (o : Option Rows) → part_in outs work.parts m ≡ o → is_some o ≡ true → ⊥
    go None is there = false≢true there
    go (Some rows) is there =
        let none = (and_parts (not (has_left work)) (list_all (λ m. is_none (part_in outs work.parts m)) outs) over).1 in
        let gone = all_of_list (λ m. is_none (part_in outs work.parts m)) outs m none (kept_is_output outs work.parts m rows long is) in
        false≢true (sym (ap is_none is) ∙ gone)

-- ---- an agent may still run

agent_apart : (model : Model) (core : Core) (e : Event) (g j : ℕ) (work : Work) → is_legal model core e ≡ true → work_of core g j ≡ Some work → has_left work ≡ true
    → (event.Agent g j ≡ e → ⊥) → its_function e ≡ Some g → its_piece e ≡ Some j → ⊥
agent_apart model core (event.Open f) g j work legal at left apart one other = cc
agent_apart model core (event.Agent f k) g j work legal at left apart one other =
    let f_is : f ≡ g = cc in let k_is : k ≡ j = cc in apart (λ i. event.Agent (sym f_is i) (sym k_is i))
agent_apart model core (event.HandIn f k m) g j work legal at left apart one other =
    let f_is : f ≡ g = cc in
    let k_is : k ≡ j = cc in
    let found = hands (outputs_of model f) core f k m legal in
    let same : Some found.work ≡ Some work = sym found.there ∙ (λ i. work_of core (f_is i) (k_is i)) ∙ at in
    let is : found.work ≡ work = cc in
    true≢false (sym left ∙ sym (ap has_left is) ∙ found.over)
agent_apart model core (event.Shut f) g j work legal at left apart one other = cc
agent_apart model core (event.Freeze m) g j work legal at left apart one other = cc

agent_lasts : (round : Round) (pieces : ℕ) (core : Core) (e : Event) (g j : ℕ) → is_legal round.source.model core e ≡ true
    → may_run (work_of core g j) ≡ true → (event.Agent g j ≡ e → ⊥) → may_run (work_of (after round pieces core e) g j) ≡ true
agent_lasts round pieces core e g j legal may apart =
    let model = round.source.model in
    let found = runs core g j may in
    ap may_run (piece_lasts round pieces core e g j found.work legal found.there
    (agent_apart model core e g j found.work legal found.there found.left apart)
    (λ is. true≢false (sym found.left ∙ none_left (outputs_of model g) found.work
    (over_at (outputs_of model g) core g j found.work (subst (λ x. is_legal model core x ≡ true) is legal) found.there))))
    ∙ may

-- ---- messages may still be handed in

-- a piece hands in its messages of one type, and still has those of another
hands_again : (outs : List ℕ) (core : Core) (g j n m : ℕ) (work : Work) → work_of core g j ≡ Some work → has_left work ≡ false → length work.parts ≡ length outs
    → is_some (part_in outs work.parts n) ≡ true → is_some (part_in outs work.parts m) ≡ true → (m ≡ n → ⊥)
    → may_hand_in outs (work_of (handed_in g j n outs (work_of core g j) core) g j) m ≡ true
hands_again outs core g j n m work at over long one other apart =
    go (part_in outs work.parts n) refl (part_in outs work.parts m) refl one other
  where
    go : (o : Option Rows) → part_in outs work.parts n ≡ o → (p : Option Rows) → part_in outs work.parts m ≡ p → is_some o ≡ true → is_some p ≡ true
        → may_hand_in outs (work_of (handed_in g j n outs (work_of core g j) core) g j) m ≡ true
    go None is p p_is one other = absurd (false≢true one)
    go (Some rows) is None p_is one other = absurd (false≢true other)
    go (Some rows) is (Some more) p_is one other =
        let new = without outs n work in
        let works = works_of (status_of core g) in
        let step : handed_in g j n outs (work_of core g j) core ≡ joined_board g j n outs work (Some rows) core =
        ap (λ o. handed_in g j n outs o core) at ∙ ap (λ o. joined_board g j n outs work o core) is in
        let again : work_of (joined_board g j n outs work (Some rows) core) g j ≡ Some new =
        ap (λ s. slice_get (works_of s) j) (get_or-set_same core.statuses g (Open (slice_set works j new)) Waiting (status_below core g j work at)) ∙ slice_get-slice_set works j new work at in
        let part : part_in outs new.parts m ≡ Some more =
        part_in-without-else outs n m work (kept_is_output outs work.parts n rows long is) (kept_is_output outs work.parts m more long p_is) apart ∙ p_is in
        ap (λ c. may_hand_in outs (work_of c g j) m) step ∙ ap (λ o. may_hand_in outs o m) again
        ∙ and_from (not (has_left work)) (is_some (part_in outs new.parts m)) (ap not over) (ap is_some part)

module _ (round : Round) (pieces : ℕ) (core : Core) (g j m : ℕ) (kept : KeptCore round.source.model pieces core)
    (may : may_hand_in (outputs_of round.source.model g) (work_of core g j) m ≡ true) where
  abbrev outs : List ℕ
  outs = outputs_of round.source.model g

  abbrev found : Hands outs core g j m
  found = hands outs core g j m may

  abbrev MayStill : Event → Type 0
  MayStill e = may_hand_in outs (work_of (after round pieces core e) g j) m ≡ true

  long : length found.work.parts ≡ length outs
  long = (each_at (KeptWork outs) (works_of (status_of core g)) j found.work (kept.works g).each found.there).long

  still : (e : Event) → is_legal round.source.model core e ≡ true → (its_function e ≡ Some g → its_piece e ≡ Some j → ⊥) → (e ≡ event.Shut g → ⊥) → MayStill e
  still e legal apart shut = ap (λ o. may_hand_in outs o m) (piece_lasts round pieces core e g j found.work legal found.there apart shut) ∙ may

  twice : (f k n : ℕ) → g ≡ f → j ≡ k → is_legal round.source.model core (event.HandIn f k n) ≡ true → (event.HandIn g j m ≡ event.HandIn f k n → ⊥)
      → MayStill (event.HandIn f k n)
  twice f k n f_is k_is legal apart =
      let legal_here : may_hand_in outs (work_of core g j) n ≡ true = subst (λ h. may_hand_in (outputs_of round.source.model h) (work_of core h j) n ≡ true) (sym f_is)
      (subst (λ i. may_hand_in (outputs_of round.source.model f) (work_of core f i) n ≡ true) (sym k_is) legal) in
      let other = hands outs core g j n legal_here in
      let same : Some other.work ≡ Some found.work = sym other.there ∙ found.there in
      let is : other.work ≡ found.work = cc in
      let here : MayStill (event.HandIn g j n) =
      hands_again outs core g j n m found.work found.there found.over long (sym (ap (λ (w : Work). is_some (part_in outs w.parts n)) is) ∙ other.part) found.part
      (λ m_is. apart (λ i. event.HandIn (f_is i) (k_is i) (m_is i))) in
      subst (λ h. MayStill (event.HandIn h k n)) f_is (subst (λ i. MayStill (event.HandIn g i n)) k_is here)

  hand_in_lasts : (e : Event) → is_legal round.source.model core e ≡ true → (event.HandIn g j m ≡ e → ⊥) → MayStill e
  hand_in_lasts (event.Open f) legal apart = still (event.Open f) legal (λ one other. cc) (λ is. cc)
  hand_in_lasts (event.Agent f k) legal apart = still (event.Agent f k) legal
      (λ one other.
      let f_is : f ≡ g = cc in
      let k_is : k ≡ j = cc in
      let ran = runs core f k legal in
      let same : Some ran.work ≡ Some found.work = sym ran.there ∙ (λ i. work_of core (f_is i) (k_is i)) ∙ found.there in
      let is : ran.work ≡ found.work = cc in
      true≢false (sym ran.left ∙ ap has_left is ∙ found.over))
      (λ is. cc)
  hand_in_lasts (event.HandIn f k n) legal apart = ⊎_elim
      (λ (f_is : g ≡ f). ⊎_elim
      (λ (k_is : j ≡ k). twice f k n f_is k_is legal apart)
      (λ (else : j ≡ k → ⊥). still (event.HandIn f k n) legal (λ one other. let same : j ≡ k = cc in else same) (λ is. cc))
      (cases_eq j k))
      (λ (else : g ≡ f → ⊥). still (event.HandIn f k n) legal (λ one other. let same : g ≡ f = cc in else same) (λ is. cc))
      (cases_eq g f)
  hand_in_lasts (event.Shut f) legal apart = still (event.Shut f) legal (λ one other. cc)
      (λ is. no_part_left outs found.work m long (over_at outs core g j found.work (subst (λ x. is_legal round.source.model core x ≡ true) is legal) found.there) found.part)
  hand_in_lasts (event.Freeze n) legal apart = still (event.Freeze n) legal (λ one other. cc) (λ is. cc)

-- ---- a function may still be shut

shut_apart : (round : Round) (pieces : ℕ) (core : Core) (e : Event) (g : ℕ) → KeptCore round.source.model pieces core → is_legal round.source.model core e ≡ true
    → may_shut (outputs_of round.source.model g) (status_of core g) ≡ true → (event.Shut g ≡ e → ⊥) → its_function e ≡ Some g → ⊥
shut_apart round pieces core (event.Open f) g kept legal may apart is =
    let same : f ≡ g = cc in
    true≢false (sym (can_open round.source.model core f legal).waits ∙ ap (λ h. is_waiting (status_of core h)) same
    ∙ ap is_waiting (may_shut_is (outputs_of round.source.model g) (status_of core g) may).0)
shut_apart round pieces core (event.Agent f k) g kept legal may apart is =
    let same : f ≡ g = cc in
    let found = runs core f k legal in
    let outs = outputs_of round.source.model g in
    true≢false (sym found.left ∙ none_left outs found.work (over_at outs core g k found.work may (sym (ap (λ h. work_of core h k) same) ∙ found.there)))
shut_apart round pieces core (event.HandIn f k m) g kept legal may apart is =
    let same : f ≡ g = cc in
    let outs = outputs_of round.source.model f in
    let found = hands outs core f k m legal in
    let here : may_shut outs (status_of core f) ≡ true = subst (λ h. may_shut (outputs_of round.source.model h) (status_of core h) ≡ true) (sym same) may in
    no_part_left outs found.work m (each_at (KeptWork outs) (works_of (status_of core f)) k found.work (kept.works f).each found.there).long
    (over_at outs core f k found.work here found.there) found.part
shut_apart round pieces core (event.Shut f) g kept legal may apart is = let same : f ≡ g = cc in apart (ap event.Shut (sym same))
shut_apart round pieces core (event.Freeze m) g kept legal may apart is = cc

-- ---- a board may still be frozen

freeze_apart : (e : Event) (m : ℕ) → (event.Freeze m ≡ e → ⊥) → frozen_by e ≡ Some m → ⊥
freeze_apart (event.Open f) m apart is = cc
freeze_apart (event.Agent f k) m apart is = cc
freeze_apart (event.HandIn f k n) m apart is = cc
freeze_apart (event.Shut f) m apart is = cc
freeze_apart (event.Freeze n) m apart is = let same : n ≡ m = cc in apart (ap event.Freeze (sym same))

freeze_lasts : (round : Round) (pieces : ℕ) (core : Core) (e : Event) (m : ℕ) → is_legal round.source.model core e ≡ true
    → may_freeze round.source.model core m ≡ true → (event.Freeze m ≡ e → ⊥) → may_freeze round.source.model (after round pieces core e) m ≡ true
freeze_lasts round pieces core e m legal may apart =
    let model = round.source.model in
    let next = after round pieces core e in
    let a = and_parts _ _ may in
    let b = and_parts _ _ a.0 in
    and_from (nat_lt m (length model.messages) && not (is_frozen next m)) (are_shut next (writers model m))
    (and_from (nat_lt m (length model.messages)) (not (is_frozen next m)) b.0
    (ap not (other_marks_stay round pieces m e core (freeze_apart e m apart)) ∙ b.1))
    (all_shut_last round pieces core e (writers model m) legal a.1)

-- ---- every event

pub still_legal : (round : Round) (pieces : ℕ) (core : Core) (e x : Event) → KeptCore round.source.model pieces core → is_legal round.source.model core e ≡ true
    → is_legal round.source.model core x ≡ true → (x ≡ e → ⊥) → is_legal round.source.model (after round pieces core e) x ≡ true
still_legal round pieces core e (event.Open g) kept legal may apart = open_lasts round pieces core e g legal may apart
still_legal round pieces core e (event.Agent g j) kept legal may apart = agent_lasts round pieces core e g j legal may apart
still_legal round pieces core e (event.HandIn g j m) kept legal may apart = hand_in_lasts round pieces core g j m kept may e legal apart
still_legal round pieces core e (event.Shut g) kept legal may apart =
    ap (may_shut (outputs_of round.source.model g)) (other_functions_stay round pieces g e core (shut_apart round pieces core e g kept legal may apart)) ∙ may
still_legal round pieces core e (event.Freeze m) kept legal may apart = freeze_lasts round pieces core e m legal may apart

pub legality_lasts : LegalityLasts
legality_lasts round pieces core e x led legal may apart = still_legal round pieces core e x (kept_core round pieces core led) legal may apart

-- ---- many events

pub led_on : (round : Round) (pieces : ℕ) (core : Core) (e : Event) → EventsLeadTo round pieces core → is_legal round.source.model core e ≡ true
    → EventsLeadTo round pieces (after round pieces core e)
led_on round pieces core e led legal = record {
  agents = led.agents;
  events = led.events ++ e ∷ [];
  leads = histories_grow round pieces (opening_core round.source.model led.agents) core (after round pieces core e) led.events (e ∷ []) led.leads
      (record { legal = and_from (is_legal round.source.model core e) true legal refl; left = refl });
}

pub legality_lasts_long : LegalityLastsLong
legality_lasts_long round pieces core [] x led legal may apart = may
legality_lasts_long round pieces core (e ∷ events) x led legal may apart =
    let next = after round pieces core e in
    let both = and_parts (is_legal round.source.model core e) (are_legal round pieces next events) legal in
    legality_lasts_long round pieces next events x (led_on round pieces core e led both.0) both.1 (legality_lasts round pieces core e x led both.0 may apart.0) apart.1
