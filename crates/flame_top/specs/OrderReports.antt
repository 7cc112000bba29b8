-- The report of each order over what the files tell, with the inputs that it reads.
use Rattle.std.specs.Prelude.{◌≡◌, ℕ, ◌==◌, List, [], ◌∷◌, ◌++◌, map, length, codes, decimal, if◌then◌else◌}
use Rattle.std.specs.Prelude.{Result, Ok, Err, String, string_bytes}
use Rattle.std.specs.List.{concat, sum_by}
use Rattle.std.specs.FinMap.{empty, insert}
use Rattle.std.specs.declared.alloc.Global.{Global}
use Rattle.flame_outside.specs.Files.{Files}
use Rattle.flame_outside.specs.Scripts.{Act, puts, prints}
use Rattle.flame_outside.specs.WhatIsTold.{files_by}
use Rattle.flame_words.specs.declared.orders.Order.{Order}
use Rattle.flame_words.specs.declared.orders.Order.TheVariants.{Run, Check, Graph, Code, Trial, Migrate, Trace, Replay}
use Rattle.flame_words.specs.declared.orders.RunOrder.{RunOrder}
use Rattle.flame_words.specs.declared.orders.TraceOrder.{TraceOrder}
use Rattle.flame_words.specs.declared.orders.TrialOrder.{TrialOrder}
use Rattle.flame_words.specs.declared.faults.Usage.{Usage}
use Rattle.flame_words.specs.CommandLines.{order_of}
use Rattle.flame_spec.specs.declared.models.Model.{Model}
use Rattle.flame_spec.specs.declared.outcomes.Source.{Source}
use Rattle.flame_spec.specs.Before.{function_count}
use Rattle.flame_world.specs.declared.worlds.World.{World}
use Rattle.flame_world.specs.declared.worlds.Boards.{Boards}
use Rattle.flame_popfile.specs.declared.formats.Format.{Format}
use Rattle.flame_popfile.specs.declared.formats.Format.TheVariants.{One, Two}
use Rattle.flame_popfile.specs.declared.starts.Start.{Start}
use Rattle.flame_popfile.specs.IterationTexts.{text, rows_in}
use Rattle.flame_report.specs.FaultLines.{usage_line}
use Rattle.flame_report.specs.GraphTexts.{graph_lines}
use Rattle.flame_report.specs.CodeTexts.{code_lines}
use Rattle.flame_load.specs.FileReads.{file_in}
use Rattle.flame_load.specs.InputReads.{Reading, known, input, ◌>>=◌}
use Rattle.flame_load.specs.LoadedSources.{loading}
use Rattle.flame_load.specs.StartReads.{starting}
use Rattle.flame_load.specs.TextReads.{Reader}
use Rattle.flame_trace.specs.TraceVerdicts.{verdict}
use Rattle.flame_trial.specs.MeadowFiles.{model_text, source_text}
use Rattle.flame_trial.specs.MeadowPopulations.{population_text}
use Rattle.flame_driver.specs.Runs.{run}
use Rattle.flame_driver.specs.RunScripts.{written_as}
use Rattle.flame_top.specs.Reports.{Report, refusal, carried_out, printing, run_report, report_in}
use Rattle.flame_top.specs.RefusalLines.{load_line, start_line, file_fault_line, in_lines}
use Rattle.flame_top.specs.TraceReports.{Traced, IsTraceOf, traced, trace_limit, replayed}

-- ---- inputs

-- the source in the files from the model file of this name on [own]
abbrev pub source_read : Reader → Files → List ℕ → Reading (List ℕ) Source
source_read read told name = in_lines (load_line name) (loading read told name)

-- the start in the population file of this name, from which so many iterations are to follow [own]
abbrev pub start_read : Files → Source → ℕ → List ℕ → Reading (List ℕ) Start
start_read told source turns name = in_lines (start_line name) (starting told source.model turns name)

-- the bytes of the trace in the file of this name [own]
abbrev pub trace_read : Files → List ℕ → Reading (List ℕ) (List ℕ)
trace_read told name = in_lines (file_fault_line name) (input (λ fault. fault) name (file_in told trace_limit name))

-- ---- run

-- the version that an order asks for: 2, or else 1, as an order has no third [own]
abbrev pub version : ℕ → Format
version number = if number == 2 then Two else One

-- the run of a source from a start on, as it is ordered; how many workers there are, and how they share the work, is nothing
-- to it [FLAME User Manual]
abbrev pub ordered_run : RunOrder → Source → Start → Report
ordered_run order source start =
    run_report
    (written_as source.model (version order.format) order.out)
    (run source order.how.fuel order.turns start)

-- `run` of a source: the population, and then the iterations [FLAME User Manual]
abbrev pub run_of_source : Files → RunOrder → Source → Reading (List ℕ) Report
run_of_source told order source = do
  start ← start_read told source order.turns order.pop
  known (ordered_run order source start)

-- `run`: the model, and then the run of its source [FLAME User Manual]
abbrev pub run_reading : Reader → Files → RunOrder → Reading (List ℕ) Report
run_reading read told order = do
  source ← source_read read told order.model
  run_of_source told order source

-- ---- check, graph, code

-- accepted agents A functions F messages M [own]
abbrev pub accepted_line : Model → List ℕ
accepted_line model =
    concat (
    codes "accepted agents "
    ∷ decimal (length model.agents)
    ∷ codes " functions "
    ∷ decimal (function_count model)
    ∷ codes " messages "
    ∷ decimal (length model.messages)
    ∷ codes "\n"
    ∷ []
    )

-- the model is read, and this text of its source is printed [own]
abbrev pub text_reading : Reader → Files → List ℕ → (Source → List ℕ) → Reading (List ℕ) Report
text_reading read told name text_of = do
  source ← source_read read told name
  known (carried_out (printing (text_of source)))

-- ---- migrate

-- a board without messages for each message type [own]
abbrev pub no_boards : Model → Boards
no_boards model = record { boards = map (λ message. []) model.messages }

-- migrated agents A [own]
abbrev pub migrated_line : World → List ℕ
migrated_line world = concat (codes "migrated agents " ∷ decimal (rows_in world.agents) ∷ codes "\n" ∷ [])

-- the population is written in format 2 to the file of this name, with its own number [own]
abbrev pub migrated : List ℕ → Source → Start → Report
migrated out source start =
    carried_out (
    puts out (text source.model Two start.itno start.world (no_boards source.model))
    ∷ prints (migrated_line start.world)
    ∷ []
    )

-- `migrate` of a source: the population for no iteration [own]
abbrev pub migrate_source : Files → Source → List ℕ → List ℕ → Reading (List ℕ) Report
migrate_source told source pop out = do
  start ← start_read told source 0 pop
  known (migrated out source start)

-- `migrate`: the model, and then its population [own]
abbrev pub migrate_reading : Reader → Files → List ℕ → List ℕ → List ℕ → Reading (List ℕ) Report
migrate_reading read told model pop out = do
  source ← source_read read told model
  migrate_source told source pop out

-- ---- trial

-- the meadow's files: its model, its function file, and its population of so many agents that a seed draws [own]
abbrev pub meadow_files : ℕ → ℕ → Files
meadow_files seed size =
    insert
    (insert (insert empty (codes "meadow.json") model_text) (codes "meadow.c") source_text)
    (codes "0.json")
    (population_text seed size)

-- `run meadow.json 0.json t N`, with the options of the trial [own]
abbrev pub meadow_order : TrialOrder → RunOrder
meadow_order order = record {
  model = codes "meadow.json";
  pop = codes "0.json";
  out = codes "t";
  turns = order.turns;
  format = 1;
  how = order.how;
}

-- how many bytes these files have together [own]
abbrev pub bytes_of : List (List ℕ × List ℕ) → ℕ
bytes_of files = sum_by (λ file. length file.1) files

-- of these acts those that print [own]
abbrev pub prints_of : List Act → List Act
prints_of [] = []
prints_of (puts name bytes ∷ acts) = prints_of acts
prints_of (prints text ∷ acts) = prints text ∷ prints_of acts

-- bytes T, of the files that these acts leave together [own]
abbrev pub bytes_line : List Act → List ℕ
bytes_line acts = concat (codes "bytes " ∷ decimal (bytes_of (files_by acts)) ∷ codes "\n" ∷ [])

-- the last line of a trial: only where its run was carried out [own]
abbrev pub bytes_told : Report → List Act
bytes_told report = if report.status == 0 then prints (bytes_line report.acts) ∷ [] else []

-- what a trial does whose run has this report: it prints the lines, and puts no file [own]
abbrev pub trial_of : Report → Report
trial_of report = record report { acts = prints_of report.acts ++ bytes_told report }

-- `trial`: the run over the meadow's files alone; nothing that is handed in is read [own]
abbrev pub trial_report : Reader → TrialOrder → Report
trial_report read order =
    trial_of (report_in (run_reading read (meadow_files order.seed order.size) (meadow_order order)))

-- ---- trace

-- `trace` of a source: the population for one iteration, and then the trace, whose text this is [own]
abbrev pub trace_source : Files → TraceOrder → Source → Traced → Reading (List ℕ) Report
trace_source told order source trace = do
  start ← start_read told source 1 order.pop
  known (traced order source start trace)

-- `trace`: the model, and then the trace of its source, whose text this is [own]
abbrev pub trace_reading : Reader → Files → TraceOrder → Traced → Reading (List ℕ) Report
trace_reading read told order trace = do
  source ← source_read read told order.model
  trace_source told order source trace

-- the text is a trace from the start that is read of this source [own]
abbrev pub IsTraceOfSource : Files → TraceOrder → Source → Traced → Type 0
IsTraceOfSource told order source trace =
    (start : Start)
    → (start_read told source 1 order.pop).answer ≡ Ok start
    → IsTraceOf order source start trace

-- the text is a trace of the source that is read, from the start that is read [own]
abbrev pub IsTraceOfInputs : Reader → Files → TraceOrder → Traced → Type 0
IsTraceOfInputs read told order trace =
    (source : Source)
    → (source_read read told order.model).answer ≡ Ok source
    → IsTraceOfSource told order source trace

-- ---- replay

-- `replay` from a start: the trace's bytes, and then the verdict on them [own]
abbrev pub replay_start : Files → Source → Start → List ℕ → Reading (List ℕ) Report
replay_start told source start name = do
  bytes ← trace_read told name
  replayed name (verdict source start bytes)

-- `replay` of a source: the population for one iteration, and then the trace [own]
abbrev pub replay_source : Files → Source → List ℕ → List ℕ → Reading (List ℕ) Report
replay_source told source pop name = do
  start ← start_read told source 1 pop
  replay_start told source start name

-- `replay`: the model, then the population, and then the trace [own]
abbrev pub replay_reading : Reader → Files → List ℕ → List ℕ → List ℕ → Reading (List ℕ) Report
replay_reading read told model pop name = do
  source ← source_read read told model
  replay_source told source pop name

-- ---- all orders

-- the report of an order, with the inputs that it reads; an order of a trace alone takes up the text that is given [own]
abbrev pub order_reading : Reader → Files → Order → Traced → Reading (List ℕ) Report
order_reading read told (Run order) trace = run_reading read told order
order_reading read told (Check model) trace = text_reading read told model (λ source. accepted_line source.model)
order_reading read told (Graph model) trace = text_reading read told model (λ source. graph_lines source.model)
order_reading read told (Code model) trace = text_reading read told model code_lines
order_reading read told (Trial order) trace = known (trial_report read order)
order_reading read told (Migrate model pop out) trace = migrate_reading read told model pop out
order_reading read told (Trace order) trace = trace_reading read told order trace
order_reading read told (Replay model pop name) trace = replay_reading read told model pop name

-- the same of words: a fault of their usage is told with status 2 [own]
abbrev pub ordered : Reader → Files → Result Order Usage → Traced → Reading (List ℕ) Report
ordered read told (Ok order) trace = order_reading read told order trace
ordered read told (Err usage) trace = known (refusal (usage_line usage) 2)

-- the report of a command line over what the files tell, with the inputs that it reads; words that order a trace alone take
-- up the text that is given [own]
abbrev pub reading : Reader → List (String Global) → Files → Traced → Reading (List ℕ) Report
reading read words told trace = ordered read told (order_of (map string_bytes words)) trace

-- the report of a command line over what the files tell [own]
abbrev pub report : Reader → List (String Global) → Files → Traced → Report
report read words told trace = report_in (reading read words told trace)

-- ---- texts of traces

-- the text that an order of a trace takes up is a trace of its inputs; of each other order nothing is asked [own]
abbrev pub TracesOrder : Reader → Files → Order → Traced → Type 0
TracesOrder read told (Trace order) trace = IsTraceOfInputs read told order trace
TracesOrder read told order trace = Unit {0}

-- the same of words [own]
abbrev pub TracesWords : Reader → Files → Result Order Usage → Traced → Type 0
TracesWords read told (Ok order) trace = TracesOrder read told order trace
TracesWords read told (Err usage) trace = Unit {0}
