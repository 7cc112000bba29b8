-- What holds of runs, iteration by iteration, and of what is written of them.
use Rattle.std.specs.Prelude.{◌≡◌, ℕ, ◌+◌, ◌<◌, pos, ◌+ℤ◌, List, [], ◌∷◌, ◌++◌, map, length, take}
use Rattle.std.specs.Prelude.{Some, None, slice_get}
use Rattle.std.specs.List.{flat_map}
use Rattle.flame_outside.specs.Scripts.{puts_in}
use Rattle.flame_outside.specs.WhatIsTold.{files_by, printed_by}
use Rattle.flame_spec.specs.declared.outcomes.Source.{Source}
use Rattle.flame_world.specs.declared.faults.SimFault.{SimFault}
use Rattle.flame_world.specs.declared.turns.Turn.TheVariants.{Done, Faulted}
use Rattle.flame_world.specs.Iterations.{iteration}
use Rattle.flame_popfile.specs.declared.starts.Start.{Start}
use Rattle.flame_driver.specs.Runs.{Stage, Run, run}
use Rattle.flame_driver.specs.RunScripts.{Writing, file_name, stage_text, stage_line, acts_of}

-- ---- iterations

-- the last of these iterations, as a start; this start where there are none [own]
abbrev pub start_behind : Start → List Stage → Start
start_behind start [] = start
start_behind start (done ∷ stages) = start_behind (record { itno = done.itno; world = done.world }) stages

-- each iteration that is done is that of the world before it; they are numbered from the one behind the start on;
-- without a fault there are as many as were asked for; a fault is that of the iteration that comes next [FLAME User
-- Manual; faults: own]
pub record RunsAreIterated : Type 0 where
  pub number :
      (source : Source) (fuel turns : ℕ) (start : Start) (place : ℕ) (done : Stage)
      → slice_get (run source fuel turns start).stages place ≡ Some done
      → done.itno ≡ start.itno +ℤ pos (place + 1)
  pub turn :
      (source : Source) (fuel turns : ℕ) (start : Start) (place : ℕ) (done : Stage)
      → slice_get (run source fuel turns start).stages place ≡ Some done
      → iteration source (start_behind start (take place (run source fuel turns start).stages)).world done.itno fuel
      ≡ Done done.world done.boards
  pub whole :
      (source : Source) (fuel turns : ℕ) (start : Start)
      → (run source fuel turns start).fault ≡ None
      → length (run source fuel turns start).stages ≡ turns
  pub fault :
      (source : Source) (fuel turns : ℕ) (start : Start) (fault : SimFault)
      → (run source fuel turns start).fault ≡ Some fault
      → (length (run source fuel turns start).stages < turns)
      × (iteration source (start_behind start (run source fuel turns start).stages).world
      (start.itno +ℤ pos (length (run source fuel turns start).stages + 1)) fuel
      ≡ Faulted fault)

-- these iterations, and then this run [own]
abbrev pub and_then : List Stage → Run → Run
and_then stages later = record { stages = stages ++ later.stages; fault = later.fault }

-- where the first iterations have no fault, a run of more is they, and then the run of the rest from the last of them;
-- where they have one, it ends both runs alike [own]
pub record RunsGoOn : Type 0 where
  pub on :
      (source : Source) (fuel first more : ℕ) (start : Start)
      → (run source fuel first start).fault ≡ None
      → run source fuel (first + more) start
      ≡ and_then (run source fuel first start).stages
      (run source fuel more (start_behind start (run source fuel first start).stages))
  pub ends :
      (source : Source) (fuel first more : ℕ) (start : Start) (fault : SimFault)
      → (run source fuel first start).fault ≡ Some fault
      → run source fuel (first + more) start ≡ run source fuel first start

-- ---- files and lines

-- iterations are written as a file each, with its name, and as a line each [own]
pub record StagesAreWritten : Type 0 where
  pub files :
      (writing : Writing) (stages : List Stage)
      → files_by (acts_of writing stages)
      ≡ map (λ done. (file_name writing.prefix done.itno, stage_text writing done)) stages
  pub lines :
      (writing : Writing) (stages : List Stage) → printed_by (acts_of writing stages) ≡ flat_map stage_line stages
  pub count : (writing : Writing) (stages : List Stage) → puts_in (acts_of writing stages) ≡ length stages
