-- Lists of gains, place by place.
use Rattle.std.proofs.Common.{◌≡◌, ℕ, zero, suc, ◌+◌, ◌<◌, ◌≤◌, Bool, true, false, List, [], ◌∷◌, ◌++◌, map, length, take, drop, get_or, Some, inl, inr, refl, sym, ap, ◌∙◌, subst, arith, append-nil, take_all}
use Rattle.std.specs.Prelude.{ℤ, slice_get, slice_set, ◌==◌, if◌then◌else◌}
use Rattle.std.specs.List.{All}
use Rattle.std.proofs.lemmas.List.{length-map}
use Rattle.std.proofs.lemmas.Bool.{eq-eqb, ne_eqb}
use Rattle.std.proofs.lemmas.Option.{slice_get_within, get_or_from_slice_get, slice_get_read}
use Rattle.flame_rows.proofs.Lists.{flat_map-next, slice_get-slice_set_cases}
use Rattle.flame_spec.specs.declared.outcomes.Outcome.{Outcome}
use Rattle.flame_leaving.specs.WholeLaws.{SurvivorsMerge, BirthsMerge}
use Rattle.flame_world.specs.Fields.{Field}
use Rattle.flame_world.specs.Iterations.{Round, outcome_in}
use Rattle.flame_lanes.specs.declared.gains.Gain.{Gain}
use Rattle.flame_lanes.specs.declared.jobs.Left.{Left}
use Rattle.flame_lanes.specs.declared.tasks.Task.{Task}
use Rattle.flame_lanes.specs.LaneTasks.{agents_at}
use Rattle.flame_lanes.specs.LayerGains.{AreOfFunctions, IsGain, IsRestOf}
use Rattle.flame_lanes.specs.TaskMeanings.{left_of}
use Rattle.flame_lanes.proofs.GainSums.{rest-is}

-- ---- what stands at a place

pub each-push : {X : Type 0} (P : X → Type 0) (xs : List X) (x : X)
    → ((k : ℕ) (y : X) → slice_get xs k ≡ Some y → P y)
    → P x
    → (k : ℕ) (y : X) → slice_get (xs ++ x ∷ []) k ≡ Some y → P y
each-push P [] x all one zero y at = let same : x ≡ y = cc in subst P same one
each-push P [] x all one (suc k) y at = absurd (cc)
each-push P (z ∷ xs) x all one zero y at = all zero y at
each-push P (z ∷ xs) x all one (suc k) y at = each-push P xs x (λ j w there. all (suc j) w there) one k y at

-- the first of those of a mapped list that are left
mapped-first : {X Y : Type 0} (f : X → Y) (xs : List X) (k : ℕ) (y : Y) (rest : List Y)
    → drop k (map f xs) ≡ y ∷ rest → (x : X) × (slice_get xs k ≡ Some x) × (f x ≡ y)
mapped-first f [] zero y rest is = absurd (cc)
mapped-first f [] (suc k) y rest is = absurd (cc)
mapped-first f (x ∷ xs) zero y rest is = (x, refl, cc)
mapped-first f (x ∷ xs) (suc k) y rest is = mapped-first f xs k y rest is

-- ---- what is left of a list

pub drop-zero : {X : Type 0} (xs : List X) → drop 0 xs ≡ xs
drop-zero [] = refl
drop-zero (x ∷ xs) = refl

pub drop-next : {X : Type 0} (xs : List X) (k : ℕ) (y : X) (rest : List X) → drop k xs ≡ y ∷ rest → drop (suc k) xs ≡ rest
drop-next [] zero y rest is = absurd (cc)
drop-next [] (suc k) y rest is = absurd (cc)
drop-next (x ∷ xs) zero y rest is = drop-zero xs ∙ cc
drop-next (x ∷ xs) (suc k) y rest is = drop-next xs k y rest is

pub all-first : {X : Type 0} (P : X → Type 0) (xs : List X) (k : ℕ) (y : X) (rest : List X) → All P xs → drop k xs ≡ y ∷ rest → P y
all-first P [] zero y rest all is = absurd (cc)
all-first P [] (suc k) y rest all is = absurd (cc)
all-first P (x ∷ xs) zero y rest all is = let same : x ≡ y = cc in subst P same (all 0 x (omega arith))
all-first P (x ∷ xs) (suc k) y rest all is = all-first P xs k y rest (λ j d less. all (suc j) d (omega (arith, less))) is

-- ---- one task more

-- the gains of the functions, after so many tasks
pub record AreGained (lefts : List Left) (gains : List Gain) (done : ℕ) : Type 0 where
  pub each :
      (round : Round) (read : Field) (numbers : List ℕ) (tasks : List Task) (place function : ℕ) (gain : Gain)
      → lefts ≡ map (left_of round read) tasks
      → AreOfFunctions numbers tasks
      → slice_get numbers place ≡ Some function
      → slice_get gains place ≡ Some gain
      → IsGain round.iteration function (outcome_in round function read) (agents_at place (take done tasks)) gain

take-zero : {X : Type 0} (xs : List X) → take 0 xs ≡ []
take-zero [] = refl
take-zero (x ∷ xs) = refl

pub gained-none : (lefts : List Left) (gains : List Gain) (done : ℕ)
    → done ≡ 0
    → ((place : ℕ) (gain : Gain) → slice_get gains place ≡ Some gain
    → (iteration : ℤ) (function : ℕ) (run : List ℤ → Outcome) → IsGain iteration function run [] gain)
    → AreGained lefts gains done
gained-none lefts gains done first none = record {
  each = λ round read numbers tasks place function gain are of number at.
      subst
      (λ before. IsGain round.iteration function (outcome_in round function read) (agents_at place before) gain)
      (sym (ap (λ n. take n tasks) first ∙ take-zero tasks))
      (none place gain at round.iteration function (outcome_in round function read));
}

pub gained-next : SurvivorsMerge → BirthsMerge
    → (lefts : List Left) (gains : List Gain) (done : ℕ) (left : Left) (rest : List Left) (old new : Gain)
    → AreGained lefts gains done
    → drop done lefts ≡ left ∷ rest
    → left.place < length gains
    → old ≡ get_or gains left.place old
    → ((iteration : ℤ) (function : ℕ) (run : List ℤ → Outcome) (agents more : List (List ℤ))
    → IsGain iteration function run agents old
    → IsRestOf iteration function run more left.rest
    → IsGain iteration function run (agents ++ more) new)
    → AreGained lefts (slice_set gains left.place new) (done + 1)
gained-next survive bear lefts gains done left rest old new before first within is step = record {
  each = λ round read numbers tasks place function gain are of number at.
      let found = mapped-first (left_of round read) tasks done left rest (ap (drop done) (sym are) ∙ first) in
      let task = found.0 in
      let here : done < length tasks = slice_get_within tasks done task found.1 in
      let it : get_or tasks done task ≡ task = get_or_from_slice_get tasks done task task found.1 in
      let placed : left.place ≡ task.place = ap (λ (l : Left). l.place) (sym found.2) in
      let own = λ (t : Task). if t.place == place then t.agents else [] in
      let so_far = agents_at place (take done tasks) in
      let more : agents_at place (take (done + 1) tasks) ≡ so_far ++ own task =
      flat_map-next own tasks done task here (sym it) in
      let goal = λ (f : ℕ) (agents : List (List ℤ)) (g : Gain).
      IsGain round.iteration f (outcome_in round f read) agents g in
      subst (λ agents. goal function agents gain) (sym more)
      (elim (slice_get-slice_set_cases gains left.place place new gain at) [
        | inl same ↦
            let there_too : slice_get numbers place ≡ Some task.function =
            ap (slice_get numbers) (sym same.0 ∙ placed)
            ∙ subst (λ (t : Task). slice_get numbers t.place ≡ Some t.function) it (of done task here) in
            let one : task.function ≡ function = cc in
            let test : (task.place == place) ≡ true = eq-eqb task.place place (sym placed ∙ same.0) in
            let now = step round.iteration task.function (outcome_in round task.function read) so_far task.agents
            (before.each round read numbers tasks place task.function old are of there_too
            (slice_get_read gains (length gains) place old refl (subst (λ k. k < length gains) same.0 within) (subst (λ k. old ≡ get_or gains k old) same.0 is)))
            (subst (λ (l : Left). IsRestOf round.iteration task.function (outcome_in round task.function read) task.agents l.rest)
            found.2 (rest-is survive bear round read task)) in
            subst (λ g. goal function (so_far ++ own task) g) same.1
            (subst (λ f. goal f (so_far ++ own task) new) one
            (subst (λ (b : Bool). goal task.function (so_far ++ (if b then task.agents else [])) new) (sym test) now))
        | inr other ↦
            let test : (task.place == place) ≡ false = ne_eqb task.place place (λ same. other.0 (placed ∙ same)) in
            subst (λ (b : Bool). goal function (so_far ++ (if b then task.agents else [])) gain) (sym test)
            (subst (λ agents. goal function agents gain) (sym (append-nil so_far))
            (before.each round read numbers tasks place function gain are of number other.1))
      ]);
}

pub gained-all : (lefts : List Left) (gains : List Gain) (done : ℕ)
    → length lefts ≤ done
    → AreGained lefts gains done
    → (round : Round) (read : Field) (numbers : List ℕ) (tasks : List Task) (place function : ℕ) (gain : Gain)
    → lefts ≡ map (left_of round read) tasks
    → AreOfFunctions numbers tasks
    → slice_get numbers place ≡ Some function
    → slice_get gains place ≡ Some gain
    → IsGain round.iteration function (outcome_in round function read) (agents_at place tasks) gain
gained-all lefts gains done last gained round read numbers tasks place function gain are of number at =
    subst
    (λ all. IsGain round.iteration function (outcome_in round function read) (agents_at place all) gain)
    (take_all done tasks (omega (arith, last, ap length are, length-map tasks (left_of round read))))
    (gained.each round read numbers tasks place function gain are of number at)
