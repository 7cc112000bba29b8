-- What `drive` answers: how much of a run stands, and why no more.
use Rattle.std.specs.Prelude.{◌≡◌, ℕ, ◌+◌, ℤ, pos, ◌+ℤ◌, length, take, Option, Some, None}
use Rattle.flame_outside.specs.Scripts.{Outside, StandsWhole, HasDone, FailsAtFile, FailsAtOutput}
use Rattle.flame_world.specs.declared.faults.SimFault.{SimFault}
use Rattle.flame_driver.specs.declared.drivers.DriveEnd.{DriveEnd}
use Rattle.flame_driver.specs.declared.drivers.DriveEnd.TheVariants.{Done, Fault, FileFault, OutputFault, NoMemory}
use Rattle.flame_driver.specs.Runs.{Run}
use Rattle.flame_driver.specs.RunScripts.{Writing, file_name, acts_of}

-- the run ends by this fault, or by none, and all acts that write it stand [own]
pub record IsOver (ended_by : Option SimFault) (writing : Writing) (run : Run) (done : ℕ) : Type 0 where
  pub fault : run.fault ≡ ended_by
  pub all : done ≡ length (acts_of writing run.stages)

-- the next act puts the file of the iteration of this number, which is the next one's, and the put failed [own]
pub record FailsAtStage
    (itno next : ℤ) (writing : Writing) (run : Run) (done : ℕ) (old new : Outside) : Type 0 where
  pub number : itno ≡ next
  pub file : FailsAtFile (file_name writing.prefix itno) (acts_of writing run.stages) done old new

-- why so many acts of a run stand and no more, where `next` is the number behind that of the last file that was put:
-- the run is over; or the device of the next act failed; or memory was not found, and then nothing is in doubt [own]
abbrev pub EndsBy : DriveEnd → Writing → Run → ℤ → ℕ → Outside → Outside → Type 0
EndsBy Done writing run next done old new = IsOver None writing run done
EndsBy (Fault fault) writing run next done old new = IsOver (Some fault) writing run done
EndsBy (FileFault itno) writing run next done old new = FailsAtStage itno next writing run done old new
EndsBy OutputFault writing run next done old new = FailsAtOutput (acts_of writing run.stages) done old new
EndsBy NoMemory writing run next done old new = StandsWhole (take done (acts_of writing run.stages)) old new

-- of a run that follows the iteration of this number the first acts stand, so many files were put, and it ends so [own]
pub record Drives
    (writing : Writing) (before : ℤ) (run : Run) (end : DriveEnd) (files : ℕ) (old new : Outside) : Type 0 where
  pub done : ℕ
  pub has_done : HasDone (acts_of writing run.stages) done files old new
  pub ends : EndsBy end writing run (before +ℤ pos (files + 1)) done old new
