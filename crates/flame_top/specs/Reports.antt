-- Reports: what a command line does to files and output, what it says on err, and its status.
use Rattle.std.specs.Prelude.{ℕ, List, [], ◌∷◌, Option, Some, None, Result, Ok, Err}
use Rattle.flame_outside.specs.Scripts.{Act, prints}
use Rattle.flame_spec.specs.declared.models.Model.{Model}
use Rattle.flame_world.specs.declared.faults.SimFault.{SimFault}
use Rattle.flame_report.specs.FaultLines.{sim_line}
use Rattle.flame_load.specs.InputReads.{Reading}
use Rattle.flame_driver.specs.Runs.{Run}
use Rattle.flame_driver.specs.RunScripts.{Writing, acts_of}

-- what is done to files and output, in order; the line for err, with its line feed, or nothing; and the status [own]
pub record Report : Type 0 where
  pub acts : List Act
  pub error : List ℕ
  pub status : ℕ

-- these acts are done, and there is nothing to tell [own]
abbrev pub carried_out : List Act → Report
carried_out acts = record { acts = acts; error = []; status = 0 }

-- nothing is done, and this line is told with this status [own]
abbrev pub refusal : List ℕ → ℕ → Report
refusal line status = record { acts = []; error = line; status = status }

-- a text is printed; one without bytes is not written at all [own]
abbrev pub printing : List ℕ → List Act
printing [] = []
printing (byte ∷ bytes) = prints (byte ∷ bytes) ∷ []

-- ---- runs

-- the line of the fault that ends a run, where one does [own]
abbrev pub fault_text : Model → Option SimFault → List ℕ
fault_text model None = []
fault_text model (Some fault) = sim_line model fault

-- 3 where a fault ends the run [own]
abbrev pub fault_status : Option SimFault → ℕ
fault_status None = 0
fault_status (Some fault) = 3

-- the report of a run: its iterations are written, and its fault is told [own]
abbrev pub run_report : Writing → Run → Report
run_report writing run = record {
  acts = acts_of writing run.stages;
  error = fault_text writing.model run.fault;
  status = fault_status run.fault;
}

-- ---- refused inputs

-- the report, or the line of the first refusal with status 1 [own]
abbrev pub report_or : Result Report (List ℕ) → Report
report_or (Ok report) = report
report_or (Err line) = refusal line 1

-- the report of what is read [own]
abbrev pub report_in : Reading (List ℕ) Report → Report
report_in reading = report_or reading.answer
