-- What stands when a part of a call ends, at its end or early, and what it takes to end so.
use Rattle.std.specs.Prelude.{◌≡◌, ℕ, List, ◌++◌, length, codes, Contains}
use Rattle.flame_outside.specs.Failures.{ReadFailed, PutFailed, WriteFailed}
use Rattle.flame_outside.specs.Scripts.{Act, Outside, HasDone, FailsAtFile, FailsAtOutput, GoesOn}
use Rattle.flame_load.specs.InputReads.{Reading}
use Rattle.flame_top.specs.declared.ending.Ending.{Ending}
use Rattle.flame_top.specs.declared.ending.Ending.TheVariants.{RefusedWords, Refused, Faulted}
use Rattle.flame_top.specs.declared.ending.Ending.TheVariants.{ReadFault, FileFault, OutputFault, NoMemory}
use Rattle.flame_top.specs.EndingLines.{status_of, line_of}
use Rattle.flame_top.specs.Reports.{Report, report_in}
use Rattle.flame_top.specs.CallAnswers.{WritesNothing}

-- ---- where the files are told

-- the report has this ending's status and its line [own]
abbrev pub IsReported : Ending → Report → Type 0
IsReported ending report = (report.status ≡ status_of ending) × (report.error ≡ line_of ending)

-- an ending that blames no device and no want of memory is the report's [own]
abbrev pub Ends : Ending → Report → Type 0
Ends (ReadFault name) report = Unit {0}
Ends (FileFault name) report = Unit {0}
Ends OutputFault report = Unit {0}
Ends NoMemory report = Unit {0}
Ends ending report = IsReported ending report

-- the ending leaves the whole report [own]
abbrev pub IsWholeEnding : Ending → Type 0
IsWholeEnding (ReadFault name) = ⊥
IsWholeEnding (FileFault name) = ⊥
IsWholeEnding OutputFault = ⊥
IsWholeEnding NoMemory = ⊥
IsWholeEnding ending = Unit {0}

-- the device that the ending blames, if any, is the next act's, and it failed [own]
abbrev pub Blames : Ending → List Act → ℕ → Outside → Outside → Type 0
Blames (FileFault name) acts done old new = FailsAtFile name acts done old new
Blames OutputFault acts done old new = FailsAtOutput acts done old new
Blames ending acts done old new = Unit {0}

-- what stands of a report when it ends so, with so many files put [own]
pub record Stands (ending : Ending) (files : ℕ) (report : Report) (old new : Outside) : Type 0 where
  pub done : ℕ
  pub has_done : HasDone report.acts done files old new
  pub ends : Ends ending report
  pub whole : IsWholeEnding ending → done ≡ length report.acts
  pub blames : Blames ending report.acts done old new

-- an input that could not be read is one of those that are read [own]
abbrev pub ReachesInput : List (List ℕ) → Ending → Type 0
ReachesInput inputs (ReadFault name) = Contains inputs name
ReachesInput inputs ending = Unit {0}

-- what stands of what is read so, when it ends so [own]
pub record Carries (reading : Reading (List ℕ) Report) (ending : Ending) (files : ℕ) (old new : Outside) : Type 0 where
  pub stands : Stands ending files (report_in reading) old new
  pub reached : ReachesInput reading.inputs ending

-- ---- whatever the devices tell

-- a device is blamed only where it failed [own]
abbrev pub IsCaused : Ending → Outside → Outside → Type 0
IsCaused (ReadFault name) old new = ReadFailed old.depot new.depot
IsCaused (FileFault name) old new = PutFailed old.depot new.depot
IsCaused OutputFault old new = WriteFailed old.output new.output
IsCaused ending old new = Unit {0}

-- the ending is the refusal of the words [own]
abbrev pub RefusesWords : Ending → Type 0
RefusesWords (RefusedWords line) = Unit {0}
RefusesWords ending = ⊥

-- the ending is that of an input: it is refused, or could not be read [own]
abbrev pub IsOfInput : Ending → Type 0
IsOfInput (Refused line) = Unit {0}
IsOfInput (ReadFault name) = Unit {0}
IsOfInput ending = ⊥

-- the ending is the fault of an iteration [own]
abbrev pub IsFaulted : Ending → Type 0
IsFaulted (Faulted line) = Unit {0}
IsFaulted ending = ⊥

-- the bytes are a line with its line feed [own]
abbrev pub IsLine : List ℕ → Type 0
IsLine bytes = (line : List ℕ) × (bytes ≡ line ++ codes "\n")

-- what an ending has to tell is a line [own]
abbrev pub TellsLine : Ending → Type 0
TellsLine (RefusedWords line) = IsLine line
TellsLine (Refused line) = IsLine line
TellsLine (Faulted line) = IsLine line
TellsLine ending = Unit {0}

-- what holds of a part that carries out an order, and ends so with so many files [own]
pub record Keeps (ending : Ending) (files : ℕ) (old new : Outside) : Type 0 where
  pub caused : IsCaused ending old new
  pub ordered : ¬ RefusesWords ending
  pub line : TellsLine ending
  pub input : IsOfInput ending → WritesNothing files old new
  pub goes_on : GoesOn old new
