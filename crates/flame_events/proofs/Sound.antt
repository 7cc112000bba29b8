-- What holds of a core that events led to, and that it holds when a function is opened and when an agent ran.
use Rattle.std.proofs.Common.{◌≡◌, ℕ, zero, suc, ◌<◌, ◌≤◌, ⊎_elim, Bool, true, false, cond, List, [], ◌∷◌, length, map, Some, refl, sym, ap, ◌∙◌, arith, subst, length-set, get_or-set_same, get_or-set_other}
use Rattle.std.specs.Prelude.{not, ◌==◌, ◌&&◌, slice_get, slice_set, slice_index_or}
use Rattle.std.specs.List.{list_all}
use Rattle.std.proofs.lemmas.Bool.{cases_eq, cases_lt, cases_Bool, eq-eqb, and_parts, ltb-true, lt-ltb, true≢false, false≢true}
use Rattle.std.proofs.lemmas.Option.{slice_get_within}
use Rattle.flame_spec.specs.declared.models.Model.{Model}
use Rattle.flame_spec.specs.Before.{before, function_count}
use Rattle.flame_spec.specs.Below.{is_in}
use Rattle.flame_spec.specs.Functions.{Place, functions}
use Rattle.flame_spec.proofs.FirstBelow.{is_in-all_below}
use Rattle.flame_world.specs.Fields.{Field}
use Rattle.flame_world.specs.Iterations.{Round, taking, outcome_in}
use Rattle.flame_rows.specs.Cuts.{cut}
use Rattle.flame_rows.proofs.Lists.{slice_get-some}
use Rattle.flame_events.specs.CoreStates.{Work, Status, Waiting, Open, Shut, Faulted, is_waiting, is_shut, works_of, Core, status_of, is_frozen}
use Rattle.flame_events.specs.LegalEvents.{predecessors, inputs_at, inputs_of, outputs_of, may_open}
use Rattle.flame_events.specs.EventSteps.{fresh_work, opened}
use Rattle.flame_events.proofs.Weights.{Row, Rows}
use Rattle.flame_events.proofs.Spots.{Spot, input_named, enters, enters_before}
use Rattle.flame_events.proofs.Holding.{Ideal, over, IsIdeal, Holds, meets_agents, meets_board, resting}
use Rattle.flame_events.proofs.Moves.{put, put-same, put-else, left, holds-opened}
use Rattle.flame_events.proofs.Serial.{nobody_late, taking_is}
use Rattle.flame_events.proofs.Works.{ran_rows, handed_rows, Fits, all_of_list, fresh_fits, fresh_ran, fresh_handed, cut_whole}

-- ---- statuses

abbrev pub still_in : Core → ℕ → Bool
still_in core f = is_waiting (status_of core f)

abbrev pub ran_in : Ideal → Core → ℕ → Rows
ran_in t core g = ran_rows (t.agents g) (status_of core g)

abbrev pub handed_in : Model → Ideal → Core → ℕ → ℕ → Rows
handed_in model t core m g = handed_rows (outputs_of model g) m (t.agents g) (status_of core g)

pub record Sound (round : Round) (start : Spot → Rows) (t : Ideal) (core : Core) : Type 0 where
  pub long : length core.statuses ≡ function_count round.source.model
  pub marks : length core.frozen ≡ length round.source.model.messages
  pub holds : Holds round start t core.field (still_in core) (ran_in t core) (handed_in round.source.model t core)
  pub fits : (f : ℕ) → Fits round t f (status_of core f)
  pub early : (g f : ℕ) → g < function_count round.source.model → before round.source.model g f ≡ true
      → is_waiting (status_of core f) ≡ false → is_shut (status_of core g) ≡ true
  pub fed : (f : ℕ) → is_waiting (status_of core f) ≡ false → list_all (is_frozen core) (inputs_of round.source.model f) ≡ true
  pub written : (m g : ℕ) → g < function_count round.source.model → is_frozen core m ≡ true
      → is_in m (outputs_of round.source.model g) ≡ true → is_shut (status_of core g) ≡ true

pub set_table : {X : Type 0} (xs : List X) (i : ℕ) (x d : X) → i < length xs → (j : ℕ)
    → slice_index_or (slice_set xs i x) j d ≡ put (λ k. slice_index_or xs k d) i x j
set_table xs i x d less j = ⊎_elim
    (λ (same : j ≡ i).
    ap (λ k. slice_index_or (slice_set xs i x) k d) same ∙ get_or-set_same xs i x d less
    ∙ sym (ap (λ b. cond b x (slice_index_or xs j d)) (eq-eqb j i same)))
    (λ (apart : j ≡ i → ⊥). get_or-set_other xs i j x d apart ∙ sym (put-else (λ k. slice_index_or xs k d) i x j apart))
    (cases_eq j i)

pub put_all : (P : ℕ → Status → Type 0) (table : ℕ → Status) (f : ℕ) (v : Status) → P f v → ((g : ℕ) → (g ≡ f → ⊥) → P g (table g)) → (g : ℕ) → P g (put table f v g)
put_all P table f v new old g = ⊎_elim
    (λ (same : g ≡ f). subst (λ k. P k (put table f v k)) (sym same) (subst (P f) (sym (put-same table f v)) new))
    (λ (apart : g ≡ f → ⊥). subst (P g) (sym (put-else table f v g apart)) (old g apart))
    (cases_eq g f)

-- a fact about a status after the event, from one before it
pub put_back : (P : ℕ → Status → Type 0) (Q : ℕ → Type 0) (table : ℕ → Status) (f : ℕ) (v : Status) → (P f v → Q f) → ((g : ℕ) → P g (table g) → Q g) → (g : ℕ) → P g (put table f v g) → Q g
put_back P Q table f v new old g h = ⊎_elim
    (λ (same : g ≡ f). subst Q (sym same) (new (subst (P f) (put-same table f v) (subst (λ k. P k (put table f v k)) same h))))
    (λ (apart : g ≡ f → ⊥). old g (subst (P g) (put-else table f v g apart) h))
    (cases_eq g f)

pub put_keeps : {A : Type 0} (F : ℕ → Status → A) (table : ℕ → Status) (f : ℕ) (v : Status) → F f v ≡ F f (table f) → (g : ℕ) → F g (put table f v g) ≡ F g (table g)
put_keeps F table f v same g = put_all (λ g x. F g x ≡ F g (table g)) table f v same (λ g apart. refl) g

pub shut_ran : (agents : Rows) (status : Status) → is_shut status ≡ true → ran_rows agents status ≡ agents
shut_ran agents Waiting shut = absurd (false≢true shut)
shut_ran agents (Open works) shut = absurd (false≢true shut)
shut_ran agents Shut shut = refl
shut_ran agents (Faulted fault) shut = absurd (false≢true shut)

pub shut_handed : (outs : List ℕ) (m : ℕ) (agents : Rows) (status : Status) → is_shut status ≡ true → handed_rows outs m agents status ≡ agents
shut_handed outs m agents Waiting shut = absurd (false≢true shut)
shut_handed outs m agents (Open works) shut = absurd (false≢true shut)
shut_handed outs m agents Shut shut = refl
shut_handed outs m agents (Faulted fault) shut = absurd (false≢true shut)

-- ---- what the boards of an open function are

pub core_runs : (round : Round) (start : Spot → Rows) (t : Ideal) (core : Core) (f : ℕ)
    → IsIdeal round start t → Sound round start t core → f < function_count round.source.model
    → list_all (is_frozen core) (inputs_of round.source.model f) ≡ true
    → outcome_in round f core.field ≡ t.run f
core_runs round start t core f ideal h below fed =
    let model = round.source.model in
    let place = slice_get-some (functions model) f below in
    let there : (m : ℕ) → is_in m (inputs_of model f) ≡ true → m < length model.messages =
    λ m reads.
    let input = input_named model place.0 m (sym (ap (λ o. is_in m (inputs_at o model)) place.1) ∙ reads) in
    slice_get_within model.messages m input.named.message input.named.there in
    λ i memory. (ideal f below).run core.field.boards
    (λ m reads.
    meets_board round start t core.field (still_in core) (ran_in t core) (handed_in model t core) h.holds m (there m reads)
    (λ g less writes.
    shut_handed (outputs_of model g) m (t.agents g) (status_of core g)
    (h.written m g less (all_of_list (is_frozen core) (inputs_of model f) m fed reads) writes)))
    memory i

-- ---- the status of one function changes, and it is neither begun nor unshut by that

pub sound_change : (round : Round) (start : Spot → Rows) (t : Ideal) (core : Core) (f : ℕ) (v : Status) (b : Field)
    → Sound round start t core → f < function_count round.source.model
    → is_waiting v ≡ is_waiting (status_of core f) → (is_shut (status_of core f) ≡ true → is_shut v ≡ true) → Fits round t f v
    → Holds round start t b (still_in core) (λ g. ran_rows (t.agents g) (put (status_of core) f v g))
    (λ m g. handed_rows (outputs_of round.source.model g) m (t.agents g) (put (status_of core) f v g))
    → Sound round start t (record { statuses = slice_set core.statuses f v; field = b; frozen = core.frozen })
sound_change round start t core f v b h below same keeps fit holds =
    let model = round.source.model in
    let next : Core = record { statuses = slice_set core.statuses f v; field = b; frozen = core.frozen } in
    let table : put (status_of core) f v ≡ status_of next = λ i g. sym (set_table core.statuses f v Waiting (omega (arith, below, h.long)) g) i in
    let facts =
    subst (λ (status : ℕ → Status).
    ((g : ℕ) → is_waiting (status g) ≡ is_waiting (status_of core g))
    × ((g : ℕ) → is_shut (status_of core g) ≡ true → is_shut (status g) ≡ true)
    × ((g : ℕ) → Fits round t g (status g))
    × Holds round start t b (still_in core) (λ g. ran_rows (t.agents g) (status g)) (λ m g. handed_rows (outputs_of model g) m (t.agents g) (status g)))
    table (
      put_keeps (λ g x. is_waiting x) (status_of core) f v same,
      put_all (λ g x. is_shut (status_of core g) ≡ true → is_shut x ≡ true) (status_of core) f v keeps (λ g apart e. e),
      put_all (λ g x. Fits round t g x) (status_of core) f v fit (λ g apart. h.fits g),
      holds,
    ) in
    record {
      long = length-set core.statuses f v ∙ h.long;
      marks = h.marks;
      holds = subst (λ (still : ℕ → Bool). Holds round start t b still (ran_in t next) (handed_in model t next)) (λ i g. sym (facts.0 g) i) facts.3;
      fits = facts.2;
      early = λ g k less stands waits. facts.1 g (h.early g k less stands (sym (facts.0 k) ∙ waits));
      fed = λ g waits. h.fed g (sym (facts.0 g) ∙ waits);
      written = λ m g less frozen writes. facts.1 g (h.written m g less frozen writes);
    }

-- ---- a function is opened

pub in_predecessors : (model : Model) (f g : ℕ) → g < function_count model → before model g f ≡ true → is_in g (predecessors model f) ≡ true
in_predecessors model f g less stands =
    is_in-all_below (λ other. before model other f) (function_count model) g ∙ (λ i. lt-ltb g (function_count model) less i && stands i)

pub both_wait : (status : Status) → is_waiting status ≡ true → is_shut status ≡ true → ⊥
both_wait Waiting waits shut = false≢true shut
both_wait (Open works) waits shut = false≢true shut
both_wait Shut waits shut = false≢true waits
both_wait (Faulted fault) waits shut = false≢true shut

pub waiting_is : (status : Status) → is_waiting status ≡ true → status ≡ Waiting
waiting_is Waiting waits = refl
waiting_is (Open works) waits = absurd (false≢true waits)
waiting_is Shut waits = absurd (false≢true waits)
waiting_is (Faulted fault) waits = absurd (false≢true waits)

pub record CanOpen (model : Model) (core : Core) (f : ℕ) : Type 0 where
  pub below : f < function_count model
  pub waits : is_waiting (status_of core f) ≡ true
  pub earlier : (g : ℕ) → g < function_count model → before model g f ≡ true → is_shut (status_of core g) ≡ true
  pub fed : list_all (is_frozen core) (inputs_of model f) ≡ true

pub can_open : (model : Model) (core : Core) (f : ℕ) → may_open model core f ≡ true → CanOpen model core f
can_open model core f legal =
    let a = and_parts _ _ legal in
    let b = and_parts _ _ a.0 in
    let c = and_parts _ _ b.0 in
    record {
      below = ltb-true f (function_count model) c.0;
      waits = c.1;
      earlier = λ g less stands. all_of_list (λ g. is_shut (status_of core g)) (predecessors model f) g b.1 (in_predecessors model f g less stands);
      fed = a.1;
    }

still_put : (b : Bool) (works : List Work) (status : Status) → cond b false (is_waiting status) ≡ is_waiting (cond b (Open works) status)
still_put true works status = refl
still_put false works status = refl

pub sound_opened : (round : Round) (start : Spot → Rows) (t : Ideal) (pieces : ℕ) (core : Core) (f : ℕ) (place : Place)
    → IsIdeal round start t → 0 < pieces → Sound round start t core → CanOpen round.source.model core f
    → slice_get (functions round.source.model) f ≡ Some place
    → Sound round start t (opened round pieces f (Some place) core)
sound_opened round start t pieces core f place ideal some h can at =
    let model = round.source.model in
    let outs = outputs_of model f in
    let agents = taking round f place core.field in
    let bags = cut pieces agents in
    let works = map (fresh_work outs) bags in
    let v : Status = Open works in
    let next : Core = opened round pieces f (Some place) core in
    let idle : status_of core f ≡ Waiting = waiting_is (status_of core f) can.waits in
    let is : agents ≡ t.agents f =
    taking_is round f place core.field at
    ∙ meets_agents round start t core.field (still_in core) (ran_in t core) (handed_in model t core) h.holds f can.waits
    (λ g less meets. shut_ran (t.agents g) (status_of core g) (can.earlier g less (enters_before model g f less can.below meets)))
    ∙ sym (ideal f can.below).agents in
    let table : put (status_of core) f v ≡ status_of next = λ i g. sym (set_table core.statuses f v Waiting (omega (arith, can.below, h.long)) g) i in
    let one = holds-opened round start t core.field (still_in core) (ran_in t core) (handed_in model t core) h.holds f place at in
    let still : put (still_in core) f false ≡ (λ g. is_waiting (put (status_of core) f v g)) = λ i g. still_put (g == f) works (status_of core g) i in
    let ran : ran_in t core ≡ (λ g. ran_rows (t.agents g) (put (status_of core) f v g)) =
    λ i g. sym (put_keeps (λ g x. ran_rows (t.agents g) x) (status_of core) f v (fresh_ran outs bags ∙ ap (ran_rows (t.agents f)) (sym idle)) g) i in
    let handed : handed_in model t core ≡ (λ m g. handed_rows (outputs_of model g) m (t.agents g) (put (status_of core) f v g)) =
    λ i m g. sym (put_keeps (λ g x. handed_rows (outputs_of model g) m (t.agents g) x) (status_of core) f v
    (fresh_handed outs m bags ∙ ap (handed_rows outs m (t.agents f)) (sym idle)) g) i in
    let moved : Holds round start t (left round f place core.field) (λ g. is_waiting (put (status_of core) f v g))
    (λ g. ran_rows (t.agents g) (put (status_of core) f v g)) (λ m g. handed_rows (outputs_of model g) m (t.agents g) (put (status_of core) f v g)) =
    carry round start t (left round f place core.field) still ran handed one in
    let keeps : (g : ℕ) → is_shut (status_of core g) ≡ true → is_shut (put (status_of core) f v g) ≡ true =
    put_all (λ g x. is_shut (status_of core g) ≡ true → is_shut x ≡ true) (status_of core) f v (λ e. absurd (both_wait (status_of core f) can.waits e)) (λ g apart e. e) in
    let facts =
    subst (λ (status : ℕ → Status).
    ((g : ℕ) → is_shut (status_of core g) ≡ true → is_shut (status g) ≡ true)
    × ((g : ℕ) → Fits round t g (status g))
    × Holds round start t (left round f place core.field) (λ g. is_waiting (status g)) (λ g. ran_rows (t.agents g) (status g)) (λ m g. handed_rows (outputs_of model g) m (t.agents g) (status g))
    × ((g k : ℕ) → g < function_count model → before model g k ≡ true → is_waiting (status k) ≡ false → is_shut (status_of core g) ≡ true)
    × ((k : ℕ) → is_waiting (status k) ≡ false → list_all (is_frozen core) (inputs_of model k) ≡ true))
    table (
      keeps,
      put_all (λ g x. Fits round t g x) (status_of core) f v (record { whole = cut_whole outs pieces agents some ∙ is; each = fresh_fits round t f bags }) (λ g apart. h.fits g),
      moved,
      (λ g k less stands waits.
          put_back (λ k x. (is_waiting x ≡ false) × (before model g k ≡ true)) (λ k. is_shut (status_of core g) ≡ true) (status_of core) f v
          (λ e. can.earlier g less e.1) (λ k e. h.early g k less e.1 e.0) k (waits, stands)),
      (λ k waits. put_back (λ k x. is_waiting x ≡ false) (λ k. list_all (is_frozen core) (inputs_of model k) ≡ true) (status_of core) f v (λ e. can.fed) (λ k e. h.fed k e) k waits),
    ) in
    record {
      long = length-set core.statuses f v ∙ h.long;
      marks = h.marks;
      holds = facts.2;
      fits = facts.1;
      early = λ g k less stands waits. facts.0 g (facts.3 g k less stands waits);
      fed = facts.4;
      written = λ m g less frozen writes. facts.0 g (h.written m g less frozen writes);
    }
  where
    carry : (round : Round) (start : Spot → Rows) (t : Ideal) (b : Field) {x x' : ℕ → Bool} {y y' : ℕ → Rows} {z z' : ℕ → ℕ → Rows}
        → x ≡ x' → y ≡ y' → z ≡ z' → Holds round start t b x y z → Holds round start t b x' y' z'
    carry round start t b {x} {x'} {y} {y'} {z} {z'} p q r h =
        subst (λ (o : ℕ → Bool). Holds round start t b o y' z') p
        (subst (λ (o : ℕ → Rows). Holds round start t b x o z') q (subst (λ (o : ℕ → ℕ → Rows). Holds round start t b x y o) r h))

-- ---- an agent runs

pub opens_with : (status : Status) (k : ℕ) (work : Work) → slice_get (works_of status) k ≡ Some work → status ≡ Open (works_of status)
opens_with Waiting k work at = absurd cc
opens_with (Open works) k work at = refl
opens_with Shut k work at = absurd cc
opens_with (Faulted fault) k work at = absurd cc

pub past_waiting : (statuses : List Status) (f : ℕ) → length statuses ≤ f → slice_index_or statuses f Waiting ≡ Waiting
past_waiting [] f over = refl
past_waiting (status ∷ statuses) zero over = absurd (omega (arith, over))
past_waiting (status ∷ statuses) (suc f) over = past_waiting statuses f (omega (arith, over))

-- a function that is open is one of the model's
pub open_below : (round : Round) (start : Spot → Rows) (t : Ideal) (core : Core) (f : ℕ) (works : List Work)
    → Sound round start t core → status_of core f ≡ Open works → f < function_count round.source.model
open_below round start t core f works h is = ⊎_elim
    (λ (less : f < length core.statuses). omega (arith, less, h.long))
    (λ (over : length core.statuses ≤ f). absurd (true≢false (ap is_waiting (sym (past_waiting core.statuses f over) ∙ is))))
    (cases_lt f (length core.statuses))

-- an agent that arrives where an open function leaves it has a choice that waits
pub nobody_waits_less : (round : Round) (start : Spot → Rows) (t : Ideal) (core : Core) (f : ℕ) (memory : Row)
    → Sound round start t core → f < function_count round.source.model → is_shut (status_of core f) ≡ false
    → resting round (still_in core) (enters round.source.model f) memory ≡ true
nobody_waits_less round start t core f memory h below busy =
    subst (λ (still : ℕ → Bool). resting round still (enters round.source.model f) memory ≡ true) (λ i g. twice (still_in core g) i)
    (nobody_late round (λ g. not (still_in core g)) f memory below (λ g less stands. ap not (waits g less stands)))
  where
    twice : (b : Bool) → not (not b) ≡ b
    twice true = refl
    twice false = refl

    waits : (g : ℕ) → g < function_count round.source.model → before round.source.model f g ≡ true → still_in core g ≡ true
    waits g less stands = ⊎_elim
        (λ (e : still_in core g ≡ true). e)
        (λ (e : still_in core g ≡ false). absurd (true≢false (sym (h.early f g below stands e) ∙ busy)))
        (cases_Bool (still_in core g))
