-- What `drive` leaves where nothing fails: the whole run.
use Rattle.std.specs.Prelude.{◌≡◌, ◌≢◌, ℕ, ℤ, length, Option, Some, None}
use Rattle.flame_outside.specs.Printed.{Prints}
use Rattle.flame_outside.specs.Failures.{PutFailed, WriteFailed}
use Rattle.flame_outside.specs.Scripts.{Outside}
use Rattle.flame_outside.specs.WhatIsTold.{files_by, printed_by, with_files}
use Rattle.flame_world.specs.declared.faults.SimFault.{SimFault}
use Rattle.flame_driver.specs.declared.drivers.DriveEnd.{DriveEnd}
use Rattle.flame_driver.specs.declared.drivers.DriveEnd.TheVariants.{Done, Fault, NoMemory}
use Rattle.flame_driver.specs.Runs.{Run}
use Rattle.flame_driver.specs.RunScripts.{Writing, acts_of}
use Rattle.flame_driver.specs.DriveAnswers.{Drives}

-- the end by this fault, or by none [own]
abbrev pub end_by : Option SimFault → DriveEnd
end_by None = Done
end_by (Some fault) = Fault fault

-- the end is that of the run; its files were set in their order, and no other name; its lines were printed, and nothing
-- more; and there are so many files as iterations that are done [own]
pub record IsWrittenWhole
    (writing : Writing) (run : Run) (end : DriveEnd) (count : ℕ) (old new : Outside) : Type 0 where
  pub ends : end ≡ end_by run.fault
  pub files : new.depot.files ≡ with_files (files_by (acts_of writing run.stages)) old.depot.files
  pub lines : Prints (printed_by (acts_of writing run.stages)) old.output new.output
  pub number : count ≡ length run.stages

-- where no put and no write failed and memory was found, the run is written whole [own]
abbrev pub UnfailingRunsAreWhole : Type 0
UnfailingRunsAreWhole =
    (writing : Writing) (before : ℤ) (run : Run) (end : DriveEnd) (files : ℕ) (old new : Outside)
    → Drives writing before run end files old new
    → ¬ PutFailed old.depot new.depot
    → ¬ WriteFailed old.output new.output
    → end ≢ NoMemory
    → IsWrittenWhole writing run end files old new
