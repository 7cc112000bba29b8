-- What was printed of a run whose first acts stand, by the number of its files.
use Rattle.std.specs.Prelude.{ℕ, zero, suc, List, [], ◌++◌, take, drop}
use Rattle.std.specs.List.{flat_map}
use Rattle.flame_outside.specs.Devices.{SeenSink}
use Rattle.flame_outside.specs.Printed.{Prints}
use Rattle.flame_outside.specs.Scripts.{puts, Outside, HasDone, FailsAt}
use Rattle.flame_driver.specs.Runs.{Stage}
use Rattle.flame_driver.specs.RunScripts.{Writing, stage_line, acts_of}

-- the lines of these iterations, one after another [own]
abbrev pub lines_of : List Stage → List ℕ
lines_of stages = flat_map stage_line stages

-- the first bytes were printed whole, and a front of the last ones [own]
pub record PrintsButLast (first last : List ℕ) (old new : SeenSink) : Type 0 where
  pub count : ℕ
  pub printed : Prints (first ++ take count last) old new

-- of the lines of the first iterations, as many as files, each but the last one was printed whole, of that one a front,
-- and nothing more [own]
abbrev pub PrintsLines : List Stage → ℕ → SeenSink → SeenSink → Type 0
PrintsLines stages zero old new = Prints [] old new
PrintsLines stages (suc others) old new =
    PrintsButLast (lines_of (take others stages)) (lines_of (take 1 (drop others stages))) old new

-- what is printed follows the files that stand; where the put of the next file failed, all their lines are whole [own]
pub record LinesFollowFiles : Type 0 where
  pub front :
      (writing : Writing) (stages : List Stage) (done files : ℕ) (old new : Outside)
      → HasDone (acts_of writing stages) done files old new
      → PrintsLines stages files old.output new.output
  pub whole :
      (writing : Writing) (stages : List Stage) (done files : ℕ) (name bytes : List ℕ) (old new : Outside)
      → HasDone (acts_of writing stages) done files old new
      → FailsAt (acts_of writing stages) done (puts name bytes) old new
      → Prints (lines_of (take files stages)) old.output new.output
