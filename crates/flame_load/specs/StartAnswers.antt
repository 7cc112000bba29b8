-- What `start` answers: the start that the population holds, the first refusal, or why the file could not be told.
use Rattle.std.specs.Prelude.{◌≡◌, ℕ, [], Result, Ok, Err}
use Rattle.serde_json.specs.Data.{Data}
use Rattle.flame_spec.specs.declared.models.Model.{Model}
use Rattle.flame_popfile.specs.declared.starts.Start.{Start}
use Rattle.flame_popfile.specs.PopulationFaults.{population_faults}
use Rattle.flame_popfile.specs.PopulationStarts.{start_of}
use Rattle.flame_load.specs.declared.faults.FileFault.TheVariants as file_fault
use Rattle.flame_load.specs.declared.files.FileFail.{FileFail}
use Rattle.flame_load.specs.declared.files.FileFail.TheVariants as file_fail
use Rattle.flame_load.specs.declared.starts.StartFail.{StartFail}
use Rattle.flame_load.specs.declared.starts.StartFail.TheVariants.{Missing, TooLarge, NotJson, Pop, ReadFault, NoMemory}
use Rattle.flame_load.specs.InputReads.{Reading}
use Rattle.flame_load.specs.StartReads.{StartRefusal, of_file, of_population}

-- a failure is the refusal of what is read; or the read fault of the one input that is read; or want of memory [own]
abbrev pub StopsStart : StartFail → Reading StartRefusal Start → Type 0
StopsStart Missing reading = reading.answer ≡ Err (of_file file_fault.Missing)
StopsStart TooLarge reading = reading.answer ≡ Err (of_file file_fault.TooLarge)
StopsStart NotJson reading = reading.answer ≡ Err (of_file file_fault.NotJson)
StopsStart (Pop fault) reading = reading.answer ≡ Err (of_population fault)
StopsStart ReadFault reading = Unit {0}
StopsStart NoMemory reading = Unit {0}

-- an answer is what is given, or the reading stops by it [own]
abbrev pub GivesStart : Result Start StartFail → Reading StartRefusal Start → Type 0
GivesStart (Ok start) reading = reading.answer ≡ Ok start
GivesStart (Err fail) reading = StopsStart fail reading

-- ---- whatever the file is

-- some value is a population of the model, from which so many iterations are to follow, and holds the start [own]
pub record IsHeld (model : Model) (turns : ℕ) (start : Start) : Type 0 where
  pub value : Data
  pub faultless : population_faults model turns value ≡ []
  pub held : start ≡ start_of model value

-- the file could not be read [own]
abbrev pub IsStartReadFault : StartFail → Type 0
IsStartReadFault ReadFault = Unit {0}
IsStartReadFault fail = ⊥

-- how a start fails where the file gives nothing [own]
abbrev pub start_failure : FileFail → StartFail
start_failure (file_fail.Fault file_fault.Missing) = Missing
start_failure (file_fail.Fault file_fault.TooLarge) = TooLarge
start_failure (file_fail.Fault file_fault.NotJson) = NotJson
start_failure file_fail.Failed = ReadFault
start_failure file_fail.NoMemory = NoMemory
