-- The population file, and the start that it holds.
use Rattle.std.proofs.Common.{◌≡◌, ℕ, List, [], Result, Ok, Err, sym, ap, ◌∙◌, subst}
use Rattle.serde_json.specs.Data.{Data}
use Rattle.flame_outside.specs.Files.{Files}
use Rattle.flame_spec.specs.declared.models.Model.{Model}
use Rattle.flame_popfile.specs.declared.starts.Start.{Start}
use Rattle.flame_popfile.specs.PopulationFaults.{population_faults}
use Rattle.flame_popfile.specs.PopulationStarts.{start_of}
use Rattle.flame_load.specs.declared.faults.FileFault.{FileFault}
use Rattle.flame_load.specs.declared.faults.FileFault.TheVariants as file_fault
use Rattle.flame_load.specs.declared.files.FileFail.{FileFail}
use Rattle.flame_load.specs.declared.files.FileFail.TheVariants as file_fail
use Rattle.flame_load.specs.declared.starts.StartFail.{StartFail}
use Rattle.flame_load.specs.declared.starts.StartFail.TheVariants.{Missing, TooLarge, NotJson, Pop, ReadFault, NoMemory}
use Rattle.flame_load.specs.FileAnswers.{FailsAs}
use Rattle.flame_load.specs.FileReads.{file_in, value_of, value_in, if_json}
use Rattle.flame_load.specs.JsonReads.{json_of}
use Rattle.flame_load.specs.InputReads.{Reading, input, found_or, answer_behind, ◌>>=◌}
use Rattle.flame_load.specs.StartAnswers.{StopsStart, GivesStart, IsHeld, start_failure}
use Rattle.flame_load.specs.StartReads.{StartRefusal, of_file, of_population, population_limit, start_in, starting}
use Rattle.flame_load.proofs.KnownOrRefused.{faultless}
use Rattle.flame_starts.specs.HeldStarts.{HoldsStart}
use Rattle.flame_load.proofs.Leftovers.{rest_behind}

pub is_held :
    (model : Model) (turns : ℕ) (value : Data) (start : Start)
    → population_faults model turns value ≡ []
    → start ≡ start_of model value
    → IsHeld model turns start
is_held model turns value start none same = record { value = value; faultless = none; held = same }

-- what the value gives is given
gives_same :
    (result : Result Start StartFail) (whole rest : Reading StartRefusal Start)
    → whole.answer ≡ rest.answer
    → GivesStart result rest
    → GivesStart result whole
gives_same (Ok start) whole rest same given = same ∙ given
gives_same (Err Missing) whole rest same given = same ∙ given
gives_same (Err TooLarge) whole rest same given = same ∙ given
gives_same (Err NotJson) whole rest same given = same ∙ given
gives_same (Err (Pop fault)) whole rest same given = same ∙ given
gives_same (Err ReadFault) whole rest same given = tt
gives_same (Err NoMemory) whole rest same given = tt

pub start_behind :
    (result : Result Start StartFail) (told : Files) (model : Model) (turns : ℕ) (name : List ℕ) (value : Data)
    → value_in told population_limit name ≡ Ok value
    → GivesStart result (start_in model turns value)
    → GivesStart result (starting told model turns name)
start_behind result told model turns name value found given =
    gives_same result (starting told model turns name) (start_in model turns value)
    (rest_behind (input of_file name (value_in told population_limit name)) (start_in model turns) value
    (ap (found_or of_file) found)).answer
    given

-- the fault of the file refuses
refused_by :
    (told : Files) (model : Model) (turns : ℕ) (name : List ℕ) (fault : FileFault)
    → value_in told population_limit name ≡ Err fault
    → (starting told model turns name).answer ≡ Err (of_file fault)
unfolding ◌>>=◌
refused_by told model turns name fault found = ap (λ found. answer_behind (found_or of_file found) (start_in model turns)) found

stops_by :
    (told : Files) (model : Model) (turns : ℕ) (name : List ℕ) (fail : FileFail)
    → FailsAs fail (value_in told population_limit name)
    → StopsStart (start_failure fail) (starting told model turns name)
stops_by told model turns name (file_fail.Fault file_fault.Missing) found = refused_by told model turns name file_fault.Missing found
stops_by told model turns name (file_fail.Fault file_fault.TooLarge) found = refused_by told model turns name file_fault.TooLarge found
stops_by told model turns name (file_fail.Fault file_fault.NotJson) found = refused_by told model turns name file_fault.NotJson found
stops_by told model turns name file_fail.Failed found = tt
stops_by told model turns name file_fail.NoMemory found = tt

pub start_stops :
    (told : Files) (model : Model) (turns : ℕ) (name : List ℕ) (fail : FileFail) (why : StartFail)
    → FailsAs fail (value_in told population_limit name)
    → why ≡ start_failure fail
    → StopsStart why (starting told model turns name)
start_stops told model turns name fail why found same =
    subst (λ w. StopsStart w (starting told model turns name)) (sym same) (stops_by told model turns name fail found)

-- the value of the bytes of the file
value_found :
    (told : Files) (name bytes : List ℕ) (answer : Result Data FileFault)
    → file_in told population_limit name ≡ Ok bytes
    → if_json (json_of bytes) ≡ answer
    → value_in told population_limit name ≡ answer
value_found told name bytes answer file found = ap value_of file ∙ found

-- a start that the bytes hold is given
pub held_gives :
    (told : Files) (model : Model) (turns : ℕ) (name bytes : List ℕ) (start : Start)
    → file_in told population_limit name ≡ Ok bytes
    → HoldsStart model turns bytes start
    → GivesStart (Ok start) (starting told model turns name)
held_gives told model turns name bytes start file holds =
    start_behind (Ok start) told model turns name holds.value
    (value_found told name bytes (Ok holds.value) file (ap if_json holds.is_read))
    (faultless of_population (population_faults model turns holds.value) (start_of model holds.value) holds.faultless
    ∙ ap Ok (sym holds.held))

-- it is held
pub held :
    (model : Model) (turns : ℕ) (bytes : List ℕ) (start : Start)
    → HoldsStart model turns bytes start
    → IsHeld model turns start
held model turns bytes start holds = is_held model turns holds.value start holds.faultless holds.held

-- what the value of the bytes gives is given
pub value_gives :
    (result : Result Start StartFail) (told : Files) (model : Model) (turns : ℕ) (name bytes : List ℕ) (value : Data)
    → file_in told population_limit name ≡ Ok bytes
    → if_json (json_of bytes) ≡ Ok value
    → GivesStart result (start_in model turns value)
    → GivesStart result (starting told model turns name)
value_gives result told model turns name bytes value file found given =
    start_behind result told model turns name value (value_found told name bytes (Ok value) file found) given

-- the bytes that are no value refuse
pub json_stops :
    (told : Files) (model : Model) (turns : ℕ) (name bytes : List ℕ) (fail : FileFail) (why : StartFail)
    → file_in told population_limit name ≡ Ok bytes
    → FailsAs fail (if_json (json_of bytes))
    → why ≡ start_failure fail
    → StopsStart why (starting told model turns name)
json_stops told model turns name bytes fail why file fails same =
    start_stops told model turns name fail why
    (subst (λ found. FailsAs fail found) (sym (ap value_of file)) fails)
    same

unvalued :
    (told : Files) (name : List ℕ) (fail : FileFail)
    → FailsAs fail (file_in told population_limit name)
    → FailsAs fail (value_in told population_limit name)
unvalued told name (file_fail.Fault fault) fails = ap value_of fails
unvalued told name file_fail.Failed fails = tt
unvalued told name file_fail.NoMemory fails = tt

-- the file of which no bytes are given refuses
pub file_stops :
    (told : Files) (model : Model) (turns : ℕ) (name : List ℕ) (fail : FileFail) (why : StartFail)
    → FailsAs fail (file_in told population_limit name)
    → why ≡ start_failure fail
    → StopsStart why (starting told model turns name)
file_stops told model turns name fail why fails same =
    start_stops told model turns name fail why (unvalued told name fail fails) same
