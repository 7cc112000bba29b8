-- A run that goes on from a file of its own.
use Rattle.std.proofs.Common.{◌≡◌, ℕ, zero, suc, ◌+◌, ◌<◌, List, [], ◌∷◌, ◌++◌, length, Some, None, true, refl, sym, ap}
use Rattle.std.proofs.Common.{◌∙◌, subst, arith}
use Rattle.std.specs.Prelude.{ℤ, pos, ◌+ℤ◌, ◌≤ℤ◌, int_le, slice_get}
use Rattle.std.proofs.lemmas.Int.{ints}
use Rattle.std.proofs.lemmas.List.{map-append}
use Rattle.std.proofs.lemmas.List.Concat.{flat_map-append}
use Rattle.std.proofs.lemmas.Option.{same_Some}
use Rattle.flame_spec.specs.declared.outcomes.Source.{Source}
use Rattle.flame_spec.specs.Definitions.{definitions}
use Rattle.flame_meaning.specs.RangeLaws.{IsInt, AllWriteInts}
use Rattle.flame_world.specs.declared.turns.Turn.{Turn}
use Rattle.flame_world.specs.declared.turns.Turn.TheVariants.{Done, Faulted}
use Rattle.flame_world.specs.WorldLaws.{IsWorldOf, AreBoardsOf, WorldsStayWorlds}
use Rattle.flame_world.specs.Iterations.{iteration}
use Rattle.flame_popfile.specs.declared.starts.Start.{Start}
use Rattle.flame_popfile.specs.PopulationParts.{is_itno}
use Rattle.flame_popfile.specs.PopulationFaults.{population_faults}
use Rattle.flame_popfile.specs.PopulationStarts.{start_of}
use Rattle.flame_popfile.specs.IterationTexts.{text}
use Rattle.flame_popfile.specs.StartLaws.{LeavesRoom}
use Rattle.flame_popfile.specs.WrittenLaws.{ReadBack, WrittenReadsBack}
use Rattle.flame_popfile.proofs.StartParts.{start_from}
use Rattle.flame_driver.specs.Runs.{Stage, stage, Run, run, run_by}
use Rattle.flame_driver.specs.RunScripts.{Writing, file_name, stage_text, stage_line}
use Rattle.flame_driver.specs.IteratedRuns.{start_behind, and_then}
use Rattle.flame_driver.specs.RestartLaws.{WritesBoth, GoesOnFrom, RunsRestart}
use Rattle.flame_driver.proofs.Iterated.{no_some, one_on, runs_are_iterated, runs_go_on}
use Rattle.flame_driver.proofs.StageActs.{stages_are_written}

-- ---- numbers

is_int_of : (itno : ℤ) → pos 0 ≤ℤ itno → itno ≤ℤ pos 2147483647 → IsInt itno
is_int_of itno low high = grind (arith, ints)

is_itno_of : (itno : ℤ) → pos 0 ≤ℤ itno → itno ≤ℤ pos 2147483647 → is_itno itno ≡ true
is_itno_of itno low high = grind (arith, ints)

is_at_most : (itno : ℤ) → itno ≤ℤ pos 2147483647 → int_le itno (pos 2147483647) ≡ true
is_at_most itno high = grind (arith, ints)

-- ---- what two runs write

writes_both : (writing : Writing) (first second : Run) → WritesBoth writing (and_then first.stages second) first second
writes_both writing first second = record {
  files =
      stages_are_written.files writing (first.stages ++ second.stages)
      ∙ map-append (λ done. (file_name writing.prefix done.itno, stage_text writing done)) first.stages second.stages
      ∙ sym
      (λ i.
      stages_are_written.files writing first.stages i ++ stages_are_written.files writing second.stages i);
  lines =
      stages_are_written.lines writing (first.stages ++ second.stages)
      ∙ flat_map-append stage_line first.stages second.stages
      ∙ sym
      (λ i.
      stages_are_written.lines writing first.stages i ++ stages_are_written.lines writing second.stages i);
}

-- ---- the last iteration

-- behind all iterations of a list stands the last of them
last_start :
    (stages : List Stage) (start : Start) (place : ℕ) (last : Stage)
    → slice_get stages place ≡ Some last
    → length stages ≡ suc place
    → start_behind start stages ≡ start_from last.itno last.world
last_start [] start place last found count = no_some last found
last_start (done ∷ []) start zero last found count =
    ap (λ (s : Stage). start_from s.itno s.world) (same_Some done last found)
last_start (done ∷ []) start (suc place) last found count = absurd (omega (arith, count))
last_start (done ∷ next ∷ stages) start zero last found count = absurd (omega (arith, count))
last_start (done ∷ next ∷ stages) start (suc place) last found count =
    last_start (next ∷ stages) (start_from done.itno done.world) place last found (omega (arith, count))

-- an iteration that is done, with a world and boards of the model
pub record IsStageOf (source : Source) (done : Stage) : Type 0 where
  pub world : IsWorldOf source.model done.world
  pub boards : AreBoardsOf source.model done.boards

module _ (stay : WorldsStayWorlds) (source : Source) (fuel : ℕ) (writes : AllWriteInts (definitions source.units)) where
  -- the number behind a start's
  abbrev next : Start → ℤ
  next start = start.itno +ℤ pos 1

  abbrev came_of : Start → Turn
  came_of start = iteration source start.world (next start) fuel

  -- the iterations behind a start have numbers of int
  abbrev HaveInts : ℕ → Start → Type 0
  HaveInts turns start = (n : ℕ) → n < turns → IsInt (start.itno +ℤ pos (n + 1))

  stage_of :
      (turns : ℕ) (start : Start) (place : ℕ) (last : Stage)
      → IsWorldOf source.model start.world
      → HaveInts turns start
      → slice_get (run source fuel turns start).stages place ≡ Some last
      → IsStageOf source last
  stage_of zero start place last is numbers found = no_some last found
  stage_of (suc turns) start place last is numbers found =
      by_turn (λ later at world ints_later there. stage_of turns later at last world ints_later there)
      (came_of start) refl place found
    where
      by_turn :
          ((later : Start) (at : ℕ)
          → IsWorldOf source.model later.world
          → HaveInts turns later
          → slice_get (run source fuel turns later).stages at ≡ Some last
          → IsStageOf source last)
          → (came : Turn)
          → came_of start ≡ came
          → (place : ℕ)
          → slice_get (run_by (next start) came (run source fuel turns)).stages place ≡ Some last
          → IsStageOf source last
      by_turn rest (Faulted fault) came_is place there = no_some last there
      by_turn rest (Done world boards) came_is zero there =
          let int = numbers 0 (omega arith) in
          let after = stay source start.world world (next start) fuel boards writes int is came_is in
          subst (IsStageOf source) (same_Some (stage (next start) world boards) last there)
          (record { world = after.0; boards = after.1 })
      by_turn rest (Done world boards) came_is (suc place) there =
          let int = numbers 0 (omega arith) in
          let after = stay source start.world world (next start) fuel boards writes int is came_is in
          rest (start_from (next start) world) place after.0
          (λ n less.
          let same = one_on start.itno (n + 1) (suc n + 1) (omega arith) in
          subst IsInt (sym same) (numbers (suc n) (omega (arith, less))))
          there

-- ---- the restart

module _
    (stay : WorldsStayWorlds) (source : Source) (fuel place more : ℕ) (start : Start) (last : Stage)
    (writes : AllWriteInts (definitions source.units)) (world : IsWorldOf source.model start.world)
    (room : LeavesRoom (place + 1 + more) start.itno)
    (none : (run source fuel (place + 1) start).fault ≡ None)
    (found : slice_get (run source fuel (place + 1) start).stages place ≡ Some last) where
  -- the first iterations
  abbrev first : Run
  first = run source fuel (place + 1) start

  number : last.itno ≡ start.itno +ℤ pos (place + 1)
  number = runs_are_iterated.number source fuel (place + 1) start place last found

  low : pos 0 ≤ℤ last.itno
  low = omega (arith, ints, number, room.first)

  high : (last.itno +ℤ pos more) ≤ℤ pos 2147483647
  high = omega (arith, ints, number, room.last)

  itno_last : is_itno last.itno ≡ true
  itno_last = is_itno_of last.itno low (omega (arith, ints, high))

  int_behind : (n : ℕ) → n < place + 1 → IsInt (start.itno +ℤ pos (n + 1))
  int_behind n less =
      is_int_of (start.itno +ℤ pos (n + 1)) (omega (arith, ints, room.first)) (omega (arith, ints, less, room.last))

  last_stage : IsStageOf source last
  last_stage = stage_of stay source fuel writes (place + 1) start place last world int_behind found

  behind_last : start_behind start first.stages ≡ start_from last.itno last.world
  behind_last =
      let count : length first.stages ≡ suc place
      = runs_are_iterated.whole source fuel (place + 1) start none ∙ omega arith
      in
      last_start first.stages start place last found count

  -- from what holds the last iteration
  goes_on_from :
      (bytes : List ℕ)
      → ReadBack source.model last.itno last.world bytes
      → GoesOnFrom source fuel (place + 1) more start bytes
  goes_on_from bytes back = record {
    value = back.value;
    is_read = back.is_read;
    faultless = held.0;
    goes_on = goes_on;
    written = λ writing.
        subst (λ (whole : Run). WritesBoth writing whole first second) (sym goes_on) (writes_both writing first second);
  }
    where
      held :
          (population_faults source.model more back.value ≡ [])
          × (start_of source.model back.value ≡ start_from last.itno last.world)
      held = back.holds more (is_at_most (last.itno +ℤ pos more) high)

      second : Run
      second = run source fuel more (start_of source.model back.value)

      from : start_behind start first.stages ≡ start_of source.model back.value
      from = behind_last ∙ sym held.1

      goes_on : run source fuel (place + 1 + more) start ≡ and_then first.stages second
      goes_on =
          runs_go_on.on source fuel (place + 1) more start none
          ∙ ap (λ (s : Start). and_then first.stages (run source fuel more s)) from

pub runs_restart : WorldsStayWorlds → WrittenReadsBack → RunsRestart
runs_restart stay reads_back source fuel place more start last format accepted writes world room none found =
    let done = last_stage stay source fuel place more start last writes world room none found in
    goes_on_from stay source fuel place more start last writes world room none found
    (text source.model format last.itno last.world last.boards)
    (reads_back source format last.itno last.world last.boards accepted
    (itno_last stay source fuel place more start last writes world room none found) done.world done.boards)
