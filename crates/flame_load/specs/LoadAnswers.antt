-- What `load` answers: the source that the files stand for, the first refusal, or why an input could not be told.
use Rattle.std.specs.Prelude.{◌≡◌, List, length, Some, Result, Ok, Err, Contains}
use Rattle.flame_spec.specs.declared.models.Model.{Model}
use Rattle.flame_spec.specs.declared.trees.Unit as file
use Rattle.flame_spec.specs.declared.faults.CheckFault.{CheckFault}
use Rattle.flame_spec.specs.CheckFaults.{check_faults}
use Rattle.flame_spec.specs.Lists.{first}
use Rattle.flame_load.specs.declared.faults.LoadFail.{LoadFail}
use Rattle.flame_load.specs.declared.faults.LoadFail.TheVariants.{RefusedModel, Refused, ReadFault, NoMemory}
use Rattle.flame_load.specs.declared.faults.LoadFault.{LoadFault}
use Rattle.flame_load.specs.declared.faults.LoadFault.TheVariants.{Check, Depend}
use Rattle.flame_load.specs.InputReads.{Reading}
use Rattle.flame_load.specs.LoadRefusals.{Refusal, of_files, of_model}
use Rattle.flame_load.specs.LoadedSources.{depend_fault}

-- a failure is the refusal of what is read; or the fault of an input that is read, so that none before it is refused; or
-- want of memory [own]
abbrev pub Stops : {X : Type 0} → LoadFail → Reading Refusal X → Type 0
Stops (RefusedModel fault model) reading = reading.answer ≡ Err (of_model fault model)
Stops (Refused fault) reading = reading.answer ≡ Err (of_files fault)
Stops (ReadFault name) reading = Contains reading.inputs name
Stops NoMemory reading = Unit {0}

-- an answer is what is given, as the view shows it, or the reading stops by it [own]
abbrev pub Gives : {X Y : Type 0} → (X → Y) → Result X LoadFail → Reading Refusal Y → Type 0
Gives view (Ok x) reading = reading.answer ≡ Ok (view x)
Gives view (Err fail) reading = Stops fail reading

-- ---- whatever the files are

-- the model's function files may be such, one for each that it names, that this is their first fault [own]
pub record HasCheckFault (model : Model) (fault : CheckFault) : Type 0 where
  pub units : List file.Unit
  pub paired : length units ≡ length model.files
  pub found : first (check_faults model units) ≡ Some fault

-- the fault tells of the model: it is one of function files that the model may have, or why its functions have no order
-- [own]
abbrev pub TellsOf : Model → LoadFault → Type 0
TellsOf model (Check fault) = HasCheckFault model fault
TellsOf model (Depend fault) = depend_fault model ≡ Some fault
TellsOf model fault = ⊥

-- a fault that does not tell of a model [own]
abbrev pub TellsOfNone : LoadFault → Type 0
TellsOfNone (Check fault) = ⊥
TellsOfNone (Depend fault) = ⊥
TellsOfNone fault = Unit {0}

-- a model comes with the faults that tell of it, and with no others [own]
abbrev pub IsTold : LoadFail → Type 0
IsTold (RefusedModel fault model) = TellsOf model fault
IsTold (Refused fault) = TellsOfNone fault
IsTold (ReadFault name) = Unit {0}
IsTold NoMemory = Unit {0}

-- an input could not be read [own]
abbrev pub IsReadFault : LoadFail → Type 0
IsReadFault (ReadFault name) = Unit {0}
IsReadFault fail = ⊥
