-- The line of each refusal of an input.
use Rattle.std.specs.Prelude.{ℕ, List, [], Result, Ok, Err}
use Rattle.flame_spec.specs.declared.models.Model.{Model}
use Rattle.flame_report.specs.FaultLines.{missing_line, too_large_line, not_json_line, too_many_line}
use Rattle.flame_report.specs.FaultLines.{shape_line, nest_line, name_line, lex_line, parse_line, check_line, depend_line}
use Rattle.flame_report.specs.PopulationLines.{population_line}
use Rattle.flame_load.specs.declared.faults.FileFault.{FileFault}
use Rattle.flame_load.specs.declared.faults.FileFault.TheVariants as file
use Rattle.flame_load.specs.declared.faults.LoadFault.{LoadFault}
use Rattle.flame_load.specs.declared.faults.LoadFault.TheVariants.{Missing, TooLarge, NotJson, Shape, Name, Lex, Parse}
use Rattle.flame_load.specs.declared.faults.LoadFault.TheVariants.{Check, Depend, Nest, TooMany}
use Rattle.flame_load.specs.InputReads.{Reading}
use Rattle.flame_load.specs.LoadRefusals.{Refusal, of_files, of_model}
use Rattle.flame_load.specs.StartReads.{StartRefusal, of_file, of_population}

-- ---- models

-- the line of a fault that tells of no model, where the root's model file has this name; a fault that comes with a model
-- has no line here [own]
abbrev pub files_line : List ℕ → LoadFault → List ℕ
files_line root (Missing name) = missing_line name
files_line root (TooLarge name) = too_large_line name
files_line root (NotJson name) = not_json_line name
files_line root (Shape name shape) = shape_line name shape
files_line root (Name fault) = name_line root fault
files_line root (Lex name fault) = lex_line name fault
files_line root (Parse name line fault) = parse_line name line fault
files_line root (Check fault) = []
files_line root (Depend fault) = []
files_line root (Nest fault) = nest_line fault
files_line root (TooMany name) = too_many_line name

-- the line of a fault that tells of this model; no other comes with one [own]
abbrev pub model_line : Model → LoadFault → List ℕ
model_line model (Check fault) = check_line model fault
model_line model (Depend fault) = depend_line model fault
model_line model fault = []

-- the line of the refusal of the model whose root file has this name [own]
abbrev pub load_line : List ℕ → Refusal → List ℕ
load_line root (of_files fault) = files_line root fault
load_line root (of_model fault model) = model_line model fault

-- ---- populations

-- the line of a file that is not read as a JSON value [own]
abbrev pub file_fault_line : List ℕ → FileFault → List ℕ
file_fault_line name file.Missing = missing_line name
file_fault_line name file.TooLarge = too_large_line name
file_fault_line name file.NotJson = not_json_line name

-- the line of the refusal of the population in the file of this name [own]
abbrev pub start_line : List ℕ → StartRefusal → List ℕ
start_line name (of_file fault) = file_fault_line name fault
start_line name (of_population fault) = population_line name fault

-- ---- readings

-- an answer, with the line of its refusal [own]
abbrev pub answer_told : {R X : Type 0} → (R → List ℕ) → Result X R → Result X (List ℕ)
answer_told line (Ok x) = Ok x
answer_told line (Err refusal) = Err (line refusal)

-- a reading, with the lines of its refusals [own]
abbrev pub in_lines : {R X : Type 0} → (R → List ℕ) → Reading R X → Reading (List ℕ) X
in_lines line reading = record { inputs = reading.inputs; answer = answer_told line reading.answer }
