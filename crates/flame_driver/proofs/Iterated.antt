-- The iterations of a run, place by place and part by part.
use Rattle.std.proofs.Common.{◌≡◌, ℕ, zero, suc, ◌+◌, ◌<◌, length, take, Some, None, refl, sym, ap, ◌∙◌, subst}
use Rattle.std.proofs.Common.{arith}
use Rattle.std.specs.Prelude.{ℤ, pos, ◌+ℤ◌, slice_get}
use Rattle.std.proofs.Math.IntN.{+ℤ_assoc}
use Rattle.std.proofs.lemmas.Option.{same_Some}
use Rattle.flame_spec.specs.declared.outcomes.Source.{Source}
use Rattle.flame_world.specs.declared.faults.SimFault.{SimFault}
use Rattle.flame_world.specs.declared.turns.Turn.{Turn}
use Rattle.flame_world.specs.declared.turns.Turn.TheVariants.{Done, Faulted}
use Rattle.flame_world.specs.Iterations.{iteration}
use Rattle.flame_popfile.specs.declared.starts.Start.{Start}
use Rattle.flame_popfile.proofs.StartParts.{start_from}
use Rattle.flame_driver.specs.Runs.{Stage, stage, Run, and_run, run, run_by}
use Rattle.flame_driver.specs.IteratedRuns.{start_behind, RunsAreIterated, and_then, RunsGoOn}

pub no_some : {X R : Type 0} (x : X) → None ≡ Some x → R
no_some x same = absurd (cc same)

-- one number on
pub one_on : (itno : ℤ) (n m : ℕ) → n + 1 ≡ m → (itno +ℤ pos 1) +ℤ pos n ≡ itno +ℤ pos m
one_on itno n m same =
    let sum : 1 + n ≡ m = omega (arith, same) in
    +ℤ_assoc itno (pos 1) (pos n) ∙ ap (λ k. itno +ℤ pos k) sum

module _ (source : Source) (fuel : ℕ) where
  -- the number behind a start's
  abbrev next : Start → ℤ
  next start = start.itno +ℤ pos 1

  -- what the iteration behind a start comes to
  abbrev came_of : Start → Turn
  came_of start = iteration source start.world (next start) fuel

  number :
      (turns : ℕ) (start : Start) (place : ℕ) (done : Stage)
      → slice_get (run source fuel turns start).stages place ≡ Some done
      → done.itno ≡ start.itno +ℤ pos (place + 1)
  number zero start place done is = no_some done is
  number (suc turns) start place done is =
      by_turn (λ later at there. number turns later at done there) (came_of start) place is
    where
      by_turn :
          ((later : Start) (at : ℕ)
          → slice_get (run source fuel turns later).stages at ≡ Some done
          → done.itno ≡ later.itno +ℤ pos (at + 1))
          → (came : Turn) (place : ℕ)
          → slice_get (run_by (next start) came (run source fuel turns)).stages place ≡ Some done
          → done.itno ≡ start.itno +ℤ pos (place + 1)
      by_turn rest (Faulted fault) place is = no_some done is
      by_turn rest (Done world boards) zero is =
          sym (ap (λ (s : Stage). s.itno) (same_Some (stage (next start) world boards) done is))
      by_turn rest (Done world boards) (suc place) is =
          rest (start_from (next start) world) place is
          ∙ one_on start.itno (place + 1) (suc place + 1) (omega arith)

  turn :
      (turns : ℕ) (start : Start) (place : ℕ) (done : Stage)
      → slice_get (run source fuel turns start).stages place ≡ Some done
      → iteration source (start_behind start (take place (run source fuel turns start).stages)).world done.itno fuel
      ≡ Done done.world done.boards
  turn zero start place done is = no_some done is
  turn (suc turns) start place done is =
      by_turn (λ later at there. turn turns later at done there) (came_of start) refl place is
    where
      by_turn :
          ((later : Start) (at : ℕ)
          → slice_get (run source fuel turns later).stages at ≡ Some done
          → iteration source (start_behind later (take at (run source fuel turns later).stages)).world done.itno fuel
          ≡ Done done.world done.boards)
          → (came : Turn)
          → came_of start ≡ came
          → (place : ℕ)
          → slice_get (run_by (next start) came (run source fuel turns)).stages place ≡ Some done
          → iteration source
          (start_behind start (take place (run_by (next start) came (run source fuel turns)).stages)).world
          done.itno fuel
          ≡ Done done.world done.boards
      by_turn rest (Faulted fault) came_is place is = no_some done is
      by_turn rest (Done world boards) came_is zero is =
          subst (λ (s : Stage). iteration source start.world s.itno fuel ≡ Done s.world s.boards)
          (same_Some (stage (next start) world boards) done is) came_is
      by_turn rest (Done world boards) came_is (suc place) is = rest (start_from (next start) world) place is

  whole :
      (turns : ℕ) (start : Start)
      → (run source fuel turns start).fault ≡ None
      → length (run source fuel turns start).stages ≡ turns
  whole zero start none = refl
  whole (suc turns) start none = by_turn (λ later calm. whole turns later calm) (came_of start) none
    where
      by_turn :
          ((later : Start)
          → (run source fuel turns later).fault ≡ None
          → length (run source fuel turns later).stages ≡ turns)
          → (came : Turn)
          → (run_by (next start) came (run source fuel turns)).fault ≡ None
          → length (run_by (next start) came (run source fuel turns)).stages ≡ suc turns
      by_turn rest (Faulted fault) none = no_some fault (sym none)
      by_turn rest (Done world boards) none =
          let count = rest (start_from (next start) world) none in
          omega (arith, count)

  fault :
      (turns : ℕ) (start : Start) (fault : SimFault)
      → (run source fuel turns start).fault ≡ Some fault
      → (length (run source fuel turns start).stages < turns)
      × (iteration source (start_behind start (run source fuel turns start).stages).world
      (start.itno +ℤ pos (length (run source fuel turns start).stages + 1)) fuel
      ≡ Faulted fault)
  fault zero start f is = no_some f is
  fault (suc turns) start f is = by_turn (λ later ends_by. fault turns later f ends_by) (came_of start) refl is
    where
      by_turn :
          ((later : Start)
          → (run source fuel turns later).fault ≡ Some f
          → (length (run source fuel turns later).stages < turns)
          × (iteration source (start_behind later (run source fuel turns later).stages).world
          (later.itno +ℤ pos (length (run source fuel turns later).stages + 1)) fuel
          ≡ Faulted f))
          → (came : Turn)
          → came_of start ≡ came
          → (run_by (next start) came (run source fuel turns)).fault ≡ Some f
          → (length (run_by (next start) came (run source fuel turns)).stages < suc turns)
          × (iteration source (start_behind start (run_by (next start) came (run source fuel turns)).stages).world
          (start.itno +ℤ pos (length (run_by (next start) came (run source fuel turns)).stages + 1)) fuel
          ≡ Faulted f)
      by_turn rest (Faulted other) came_is is = (omega arith, came_is ∙ ap Faulted (same_Some other f is))
      by_turn rest (Done world boards) came_is is =
          let found = rest (start_from (next start) world) is in
          let left = (run source fuel turns (start_from (next start) world)).stages in (
            omega (arith, found.0),
            subst
                (λ (itno : ℤ).
                iteration source (start_behind (start_from (next start) world) left).world itno fuel ≡ Faulted f)
                (one_on start.itno (length left + 1) (suc (length left) + 1) (omega arith)) found.1,
          )

  -- ---- one run behind another

  on :
      (first more : ℕ) (start : Start)
      → (run source fuel first start).fault ≡ None
      → run source fuel (first + more) start
      ≡ and_then (run source fuel first start).stages
      (run source fuel more (start_behind start (run source fuel first start).stages))
  on zero more start none =
      let same : zero + more ≡ more = omega arith in
      ap (λ n. run source fuel n start) same
  on (suc first) more start none =
      let same : suc first + more ≡ suc (first + more) = omega arith in
      ap (λ n. run source fuel n start) same
      ∙ by_turn (λ later calm. on first more later calm) (came_of start) none
    where
      by_turn :
          ((later : Start)
          → (run source fuel first later).fault ≡ None
          → run source fuel (first + more) later
          ≡ and_then (run source fuel first later).stages
          (run source fuel more (start_behind later (run source fuel first later).stages)))
          → (came : Turn)
          → (run_by (next start) came (run source fuel first)).fault ≡ None
          → run_by (next start) came (run source fuel (first + more))
          ≡ and_then (run_by (next start) came (run source fuel first)).stages
          (run source fuel more (start_behind start (run_by (next start) came (run source fuel first)).stages))
      by_turn rest (Faulted fault) none = no_some fault (sym none)
      by_turn rest (Done world boards) none =
          ap (λ (r : Run). and_run (stage (next start) world boards) r) (rest (start_from (next start) world) none)

  ends :
      (first more : ℕ) (start : Start) (fault : SimFault)
      → (run source fuel first start).fault ≡ Some fault
      → run source fuel (first + more) start ≡ run source fuel first start
  ends zero more start f is = no_some f is
  ends (suc first) more start f is =
      let same : suc first + more ≡ suc (first + more) = omega arith in
      ap (λ n. run source fuel n start) same
      ∙ by_turn (λ later ends_by. ends first more later f ends_by) (came_of start) is
    where
      by_turn :
          ((later : Start)
          → (run source fuel first later).fault ≡ Some f
          → run source fuel (first + more) later ≡ run source fuel first later)
          → (came : Turn)
          → (run_by (next start) came (run source fuel first)).fault ≡ Some f
          → run_by (next start) came (run source fuel (first + more))
          ≡ run_by (next start) came (run source fuel first)
      by_turn rest (Faulted other) is = refl
      by_turn rest (Done world boards) is =
          ap (λ (r : Run). and_run (stage (next start) world boards) r) (rest (start_from (next start) world) is)

pub runs_are_iterated : RunsAreIterated
runs_are_iterated = record { number = number; turn = turn; whole = whole; fault = fault }

pub runs_go_on : RunsGoOn
runs_go_on = record { on = on; ends = ends }
