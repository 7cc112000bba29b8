-- What the reading of an input answers: what it gives, or how the order ends.
use Rattle.std.specs.Prelude.{◌≡◌, ℕ, List, Result, Ok, Err, Contains}
use Rattle.flame_outside.specs.declared.depot.ReadFail.{ReadFail}
use Rattle.flame_outside.specs.declared.depot.ReadFail.TheVariants as read
use Rattle.flame_load.specs.declared.faults.FileFault.{FileFault}
use Rattle.flame_load.specs.declared.faults.FileFault.TheVariants as file
use Rattle.flame_load.specs.declared.faults.LoadFail.{LoadFail}
use Rattle.flame_load.specs.declared.faults.LoadFail.TheVariants as load
use Rattle.flame_load.specs.declared.starts.StartFail.{StartFail}
use Rattle.flame_load.specs.declared.starts.StartFail.TheVariants as start
use Rattle.flame_load.specs.InputReads.{Reading}
use Rattle.flame_report.specs.PopulationLines.{population_line}
use Rattle.flame_top.specs.declared.ending.Ending.{Ending}
use Rattle.flame_top.specs.declared.ending.Ending.TheVariants.{Refused, ReadFault, NoMemory}
use Rattle.flame_top.specs.RefusalLines.{files_line, model_line, file_fault_line}
use Rattle.flame_top.specs.Standing.{IsLine}

-- ---- by the reading

-- the ending is the line of the refusal of what is read, or the fault of an input that is read, or want of memory [own]
abbrev pub Stops : {X : Type 0} → Ending → Reading (List ℕ) X → Type 0
Stops (Refused line) reading = reading.answer ≡ Err line
Stops (ReadFault name) reading = Contains reading.inputs name
Stops NoMemory reading = Unit {0}
Stops ending reading = ⊥

-- an answer is what is given, as the view shows it, or the reading stops by it [own]
abbrev pub Gives : {X Y : Type 0} → (X → Y) → Result X Ending → Reading (List ℕ) Y → Type 0
Gives view (Ok x) reading = reading.answer ≡ Ok (view x)
Gives view (Err ending) reading = Stops ending reading

-- an ending that the reading of an input may come to: its refusal has a line [own]
abbrev pub StopsReading : Ending → Type 0
StopsReading (Refused line) = IsLine line
StopsReading (ReadFault name) = Unit {0}
StopsReading NoMemory = Unit {0}
StopsReading ending = ⊥

-- an input could not be read [own]
abbrev pub IsReadFault : Ending → Type 0
IsReadFault (ReadFault name) = Unit {0}
IsReadFault ending = ⊥

-- ---- by the failure

-- the ending by this line, or by want of memory for it [own]
abbrev pub line_ending : {E : Type 0} → Result (List ℕ) E → Ending
line_ending (Ok line) = Refused line
line_ending (Err fail) = NoMemory

-- the ending has the line of what failed in loading, the root's model file having this name; or there was no memory for it
-- [own]
abbrev pub IsLoadEnding : List ℕ → LoadFail → Ending → Type 0
IsLoadEnding root fail NoMemory = Unit {0}
IsLoadEnding root (load.Refused fault) (Refused line) = line ≡ files_line root fault
IsLoadEnding root (load.RefusedModel fault model) (Refused line) = line ≡ model_line model fault
IsLoadEnding root (load.ReadFault input) (ReadFault name) = name ≡ input
IsLoadEnding root fail ending = ⊥

-- the ending has the line of a file of this name that is not as it is wanted; or there was no memory for it [own]
abbrev pub IsFileEnding : List ℕ → FileFault → Ending → Type 0
IsFileEnding name fault NoMemory = Unit {0}
IsFileEnding name fault (Refused line) = line ≡ file_fault_line name fault
IsFileEnding name fault ending = ⊥

-- the ending names the file of this name that could not be read; or there was no memory [own]
abbrev pub IsReadEnding : List ℕ → ReadFail → Ending → Type 0
IsReadEnding name fail NoMemory = Unit {0}
IsReadEnding name read.Failed (ReadFault input) = input ≡ name
IsReadEnding name fail ending = ⊥

-- the ending has the line of what failed in reading the population in the file of this name, or names it [own]
abbrev pub IsStartEnding : List ℕ → StartFail → Ending → Type 0
IsStartEnding name fail NoMemory = Unit {0}
IsStartEnding name start.Missing (Refused line) = line ≡ file_fault_line name file.Missing
IsStartEnding name start.TooLarge (Refused line) = line ≡ file_fault_line name file.TooLarge
IsStartEnding name start.NotJson (Refused line) = line ≡ file_fault_line name file.NotJson
IsStartEnding name (start.Pop fault) (Refused line) = line ≡ population_line name fault
IsStartEnding name start.ReadFault (ReadFault input) = input ≡ name
IsStartEnding name fail ending = ⊥
