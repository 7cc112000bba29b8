-- What holds of all reports, and of what is carried out of them. [own]
use Rattle.std.specs.Prelude.{◌≡◌, ◌≢◌, ◌≤◌, ◌⊎◌, ℕ, List, [], ◌++◌, map, codes, take, length, slice_get, Option, Some}
use Rattle.std.specs.Prelude.{Result, Ok, String, string_bytes}
use Rattle.std.specs.FinMap.{get}
use Rattle.std.specs.declared.alloc.Global.{Global}
use Rattle.flame_outside.specs.Files.{Files, told_at}
use Rattle.flame_outside.specs.Devices.{SeenSink}
use Rattle.flame_outside.specs.Printed.{Prints, PrintsFront}
use Rattle.flame_outside.specs.Failures.{PutFailed, WriteFailed}
use Rattle.flame_outside.specs.Scripts.{Outside}
use Rattle.flame_outside.specs.WhatIsTold.{files_by, printed_by, with_files}
use Rattle.flame_words.specs.declared.orders.Order.{Order}
use Rattle.flame_words.specs.declared.orders.Order.TheVariants.{Run, Trial, Trace}
use Rattle.flame_words.specs.declared.orders.RunOrder.{RunOrder}
use Rattle.flame_words.specs.declared.orders.TraceOrder.{TraceOrder}
use Rattle.flame_words.specs.declared.orders.TrialOrder.{TrialOrder}
use Rattle.flame_words.specs.declared.orders.How.{How}
use Rattle.flame_words.specs.declared.orders.Way.{Way}
use Rattle.flame_words.specs.declared.faults.Usage.{Usage}
use Rattle.flame_words.specs.CommandLines.{order_of}
use Rattle.flame_spec.specs.declared.outcomes.Source.{Source}
use Rattle.flame_popfile.specs.declared.starts.Start.{Start}
use Rattle.flame_load.specs.TextReads.{Reader}
use Rattle.flame_report.specs.FaultLines.{write_fault_line, output_fault_line}
use Rattle.flame_driver.specs.Runs.{Stage, run}
use Rattle.flame_driver.specs.LineLaws.{lines_of, PrintsLines}
use Rattle.flame_top.specs.CallAnswers.{Tells, NothingFailed, CarriesOut}
use Rattle.flame_top.specs.Reports.{Report, carried_out, printing}
use Rattle.flame_top.specs.TraceReports.{Traced, IsTraceOf, trace_limit, events_line}
use Rattle.flame_top.specs.OrderReports.{source_read, start_read, ordered_run, run_reading, trial_report, replay_reading}
use Rattle.flame_top.specs.OrderReports.{order_reading, reading, report}

-- ---- what a call leaves

-- the files of the report are set and no other name, their number is told, all its output is printed, the status is the
-- report's, and so is the line, where err takes it
pub record IsCarriedOut (report : Report) (status files : ℕ) (old new : Outside) (err err' : SeenSink) : Type 0 where
  pub files_are : new.depot.files ≡ with_files (files_by report.acts) old.depot.files
  pub count : files ≡ length (files_by report.acts)
  pub output : Prints (printed_by report.acts) old.output new.output
  pub status_is : status ≡ report.status
  pub line : ¬ WriteFailed err err' → Prints report.error err err'

-- the first files of the report stand, so many; every other name is as it was, but that of the next one, where its put
-- failed; and a front of the output is printed
pub record IsCarriedOutInPart (report : Report) (files : ℕ) (old new : Outside) : Type 0 where
  pub first :
      ¬ PutFailed old.depot new.depot
      → new.depot.files ≡ with_files (take files (files_by report.acts)) old.depot.files
  pub others :
      (name : List ℕ)
      → ((bytes : List ℕ) → slice_get (files_by report.acts) files ≢ Some (name, bytes))
      → told_at new.depot.files name ≡ told_at (with_files (take files (files_by report.acts)) old.depot.files) name
  pub output : PrintsFront (printed_by report.acts) old.output new.output

-- where nothing fails and there is memory, a call does what its report says; and in any case a first part of it
pub record CallsCarryOut : Type 0 where
  pub whole :
      (read : Reader) (words : List (String Global)) (told : Files) (trace : Traced)
      (status files : ℕ) (old new : Outside) (err err' : SeenSink)
      → CarriesOut (reading read words told trace) status files old new err err'
      → NothingFailed old new
      → status ≢ 4
      → IsCarriedOut (report read words told trace) status files old new err err'
  pub first :
      (read : Reader) (words : List (String Global)) (told : Files) (trace : Traced)
      (status files : ℕ) (old new : Outside) (err err' : SeenSink)
      → CarriesOut (reading read words told trace) status files old new err err'
      → IsCarriedOutInPart (report read words told trace) files old new

-- ---- workers

-- so many workers, which go this way and part agents by this variable, with the same fuel
abbrev pub how_by : ℕ → Way → Option (List ℕ) → How → How
how_by workers way variable how = record how { workers = workers; way = way; by = variable }

-- orders of runs, and of trials, that differ in workers, way and variable alone have one report
pub record OneReportForAllWays : Type 0 where
  pub run :
      (read : Reader) (told : Files) (order : RunOrder) (workers : ℕ) (way : Way) (variable : Option (List ℕ)) (trace : Traced)
      → order_reading read told (Run (record order { how = how_by workers way variable order.how })) trace
      ≡ order_reading read told (Run order) trace
  pub trial :
      (read : Reader) (told : Files) (order : TrialOrder) (workers : ℕ) (way : Way) (variable : Option (List ℕ)) (trace : Traced)
      → order_reading read told (Trial (record order { how = how_by workers way variable order.how })) trace
      ≡ order_reading read told (Trial order) trace

-- ---- traces

-- the words order a trace
abbrev pub OrdersTrace : Result Order Usage → Type 0
OrdersTrace (Ok (Trace order)) = Unit {0}
OrdersTrace answer = ⊥

-- words that do not order a trace have one report, whatever text is given
abbrev pub OneReportWithoutTraces : Type 0
OneReportWithoutTraces =
    (read : Reader) (words : List (String Global)) (told : Files) (trace other : Traced)
    → ¬ OrdersTrace (order_of (map string_bytes words))
    → reading read words told trace ≡ reading read words told other

-- where the inputs of a trace are read, and its text stands in some file beside them, of at most as many bytes as a trace may
-- have, `replay` of that file has the report with status 0, which prints how many events there are
abbrev pub TracesAreReplayed : Type 0
TracesAreReplayed =
    (read : Reader) (told : Files) (order : TraceOrder) (source : Source) (start : Start) (trace : Traced) (name : List ℕ)
    → (source_read read told order.model).answer ≡ Ok source
    → (start_read told source 1 order.pop).answer ≡ Ok start
    → IsTraceOf order source start trace
    → get told name ≡ Some trace.bytes
    → length trace.bytes ≤ trace_limit
    → (replay_reading read told order.model order.pop name).answer
    ≡ Ok (carried_out (printing (events_line (codes "replayed") trace.events)))

-- ---- statuses and trials

-- no report has a status above 3
abbrev pub StatusesAreFew : Type 0
StatusesAreFew =
    (read : Reader) (words : List (String Global)) (told : Files) (trace : Traced)
    → (report read words told trace).status ≤ 3

-- a trial puts no file
abbrev pub TrialsPutNothing : Type 0
TrialsPutNothing = (read : Reader) (order : TrialOrder) → files_by (trial_report read order).acts ≡ []

-- ---- lines for err

-- a report with status 0 tells err nothing, and any other one a line that ends with its line feed
pub record LinesAreTold : Type 0 where
  pub quiet :
      (read : Reader) (words : List (String Global)) (told : Files) (trace : Traced)
      → (report read words told trace).status ≡ 0
      → (report read words told trace).error ≡ []
  pub line :
      (read : Reader) (words : List (String Global)) (told : Files) (trace : Traced)
      → (report read words told trace).status ≢ 0
      → (text : List ℕ) × ((report read words told trace).error ≡ text ++ codes "\n")

-- ---- lines of runs

-- the put of the file that comes next failed, and err names it; of the files that stand all lines were printed whole
pub record StopsAtFile
    (report : Report) (stages : List Stage) (files : ℕ) (old new : Outside) (err err' : SeenSink) : Type 0 where
  pub name : List ℕ
  pub bytes : List ℕ
  pub next : slice_get (files_by report.acts) files ≡ Some (name, bytes)
  pub failed : PutFailed old.depot new.depot
  pub named : Tells (write_fault_line name) err err'
  pub lines : Prints (lines_of (take files stages)) old.output new.output

-- a print failed, and err names the output
pub record StopsAtOutput (old new : Outside) (err err' : SeenSink) : Type 0 where
  pub failed : WriteFailed old.output new.output
  pub named : Tells output_fault_line err err'

-- all files of the run stand, and all their lines were printed whole
pub record IsPrinted (stages : List Stage) (files : ℕ) (old new : Outside) : Type 0 where
  pub count : files ≡ length stages
  pub lines : Prints (lines_of stages) old.output new.output

-- what a run prints follows its files that stand; with 6 all their lines are whole, or it was a print that failed; with a
-- status of the report all files and lines of the run stand
pub record LinesOfRuns : Type 0 where
  pub front :
      (read : Reader) (told : Files) (order : RunOrder) (source : Source) (start : Start)
      (status files : ℕ) (old new : Outside) (err err' : SeenSink)
      → (run_reading read told order).answer ≡ Ok (ordered_run order source start)
      → CarriesOut (run_reading read told order) status files old new err err'
      → PrintsLines (run source order.how.fuel order.turns start).stages files old.output new.output
  pub whole :
      (read : Reader) (told : Files) (order : RunOrder) (source : Source) (start : Start)
      (status files : ℕ) (old new : Outside) (err err' : SeenSink)
      → (run_reading read told order).answer ≡ Ok (ordered_run order source start)
      → CarriesOut (run_reading read told order) status files old new err err'
      → status ≡ 6
      → StopsAtFile
      (ordered_run order source start)
      (run source order.how.fuel order.turns start).stages
      files old new err err'
      ⊎ StopsAtOutput old new err err'
  pub all :
      (read : Reader) (told : Files) (order : RunOrder) (source : Source) (start : Start)
      (status files : ℕ) (old new : Outside) (err err' : SeenSink)
      → (run_reading read told order).answer ≡ Ok (ordered_run order source start)
      → CarriesOut (run_reading read told order) status files old new err err'
      → status ≤ 3
      → IsPrinted (run source order.how.fuel order.turns start).stages files old new
