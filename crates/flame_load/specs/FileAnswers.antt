-- What reading one file answers.
use Rattle.std.specs.Prelude.{◌≡◌, ℕ, List, Result, Ok, Err}
use Rattle.flame_load.specs.declared.faults.FileFault.{FileFault}
use Rattle.flame_load.specs.declared.faults.LoadFail.{LoadFail}
use Rattle.flame_load.specs.declared.faults.LoadFail.TheVariants.{Refused, ReadFault, NoMemory as OutOfMemory}
use Rattle.flame_load.specs.declared.files.FileFail.{FileFail}
use Rattle.flame_load.specs.declared.files.FileFail.TheVariants.{Fault, Failed, NoMemory}
use Rattle.flame_load.specs.LoadRefusals.{file_refusal}

-- a failure is the fault of what was found; a failed read and want of memory are free [own]
abbrev pub FailsAs : {X : Type 0} → FileFail → Result X FileFault → Type 0
FailsAs (Fault fault) found = found ≡ Err fault
FailsAs Failed found = Unit {0}
FailsAs NoMemory found = Unit {0}

-- an answer is what was found, as the view shows it, or fails so [own]
abbrev pub Finds : {X Y : Type 0} → (X → Y) → Result X FileFail → Result Y FileFault → Type 0
Finds view (Ok x) found = found ≡ Ok (view x)
Finds view (Err fail) found = FailsAs fail found

-- the read failed [own]
abbrev pub IsFailed : FileFail → Type 0
IsFailed (Fault fault) = ⊥
IsFailed Failed = Unit {0}
IsFailed NoMemory = ⊥

-- the file of this name failed so, as loading tells it; or there was no memory for its name [own]
abbrev pub TellsFile : List ℕ → FileFail → LoadFail → Type 0
TellsFile name (Fault fault) (Refused why) = why ≡ file_refusal name fault
TellsFile name Failed (ReadFault of_file) = of_file ≡ name
TellsFile name fail OutOfMemory = Unit {0}
TellsFile name fail why = ⊥
