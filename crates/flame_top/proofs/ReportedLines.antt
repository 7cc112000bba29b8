-- The line of each report: it has none where its status is 0, and else it ends with its line feed.
use Rattle.std.proofs.Common.{◌≡◌, ◌≢◌, ℕ, zero, suc, Bool, true, false, List, [], ◌∷◌, length, Option, Some, None, Result, Ok, Err, map, string_bytes, refl, sym, subst, arith, cond}
use Rattle.std.specs.Prelude.{codes, nat_le}
use Rattle.flame_outside.specs.Files.{Files}
use Rattle.flame_words.specs.declared.orders.Order.{Order}
use Rattle.flame_words.specs.declared.orders.Order.TheVariants.{Run, Check, Graph, Code, Trial, Migrate, Trace, Replay}
use Rattle.flame_words.specs.declared.orders.RunOrder.{RunOrder}
use Rattle.flame_words.specs.declared.orders.TraceOrder.{TraceOrder}
use Rattle.flame_words.specs.declared.faults.Usage.{Usage}
use Rattle.flame_words.specs.CommandLines.{order_of}
use Rattle.flame_spec.specs.declared.models.Model.{Model}
use Rattle.flame_spec.specs.declared.outcomes.Source.{Source}
use Rattle.flame_spec.specs.declared.trees.Unit as file
use Rattle.flame_spec.specs.CheckFaults.{check_faults}
use Rattle.flame_spec.specs.KnownNames.{is_among}
use Rattle.flame_spec.specs.Lists.{first}
use Rattle.flame_spec.specs.NameFaults.{name_faults}
use Rattle.flame_world.specs.declared.faults.SimFault.{SimFault}
use Rattle.flame_world.specs.declared.verdicts.Verdict.{Verdict}
use Rattle.flame_world.specs.declared.verdicts.Verdict.TheVariants.{Yes, Form, OtherStart, Illegal, Incomplete, OtherEnd}
use Rattle.flame_popfile.specs.declared.starts.Start.{Start}
use Rattle.flame_popfile.specs.PopulationFaults.{population_faults}
use Rattle.flame_popfile.specs.PopulationStarts.{start_of}
use Rattle.flame_report.specs.FaultLines.{usage_line}
use Rattle.flame_report.specs.GraphTexts.{graph_lines}
use Rattle.flame_report.specs.CodeTexts.{code_lines}
use Rattle.flame_load.specs.declared.faults.FileFault.{FileFault}
use Rattle.flame_load.specs.declared.faults.FileFault.TheVariants as file_fault
use Rattle.flame_load.specs.declared.faults.LoadFault.TheVariants as load
use Rattle.flame_load.specs.declared.faults.TextFault.{TextFault}
use Rattle.flame_load.specs.declared.faults.TextFault.TheVariants as text_fault
use Rattle.flame_load.specs.FileReads.{source_limit, file_in, value_in}
use Rattle.flame_load.specs.InputReads.{Reading, known, refused, unless, input, answer_behind, ◌>>=◌}
use Rattle.flame_load.specs.LoadRefusals.{Refusal, of_files, of_model, file_refusal, text_refusal}
use Rattle.flame_load.specs.ModelFileReads.{ModelFiles, no_files, and_file, most_files, with_all, with_name, wide_of_value, wide_in, model_files, flat_model, named_model, model_of_files, model_in}
use Rattle.flame_load.specs.FunctionFileReads.{spelled_in, unit_in, units_in}
use Rattle.flame_load.specs.LoadedSources.{depend_fault, checked_source, planned_source, sound_source, source_of, loading}
use Rattle.flame_load.specs.StartReads.{of_file, of_population, population_limit, start_in, starting}
use Rattle.flame_load.specs.TextReads.{Reader}
use Rattle.flame_trace.specs.TraceVerdicts.{verdict}
use Rattle.flame_driver.specs.Runs.{run}
use Rattle.flame_top.specs.RefusalLines.{load_line, start_line, answer_told, file_fault_line}
use Rattle.flame_top.specs.Reports.{Report, refusal, carried_out, printing, fault_text, fault_status, report_or, report_in}
use Rattle.flame_top.specs.TraceReports.{Traced, events_line, trace_limit, next_turn, fault_of, traced_with, traced, replayed}
use Rattle.flame_top.specs.OrderReports.{trace_read, trace_source, trace_reading, replay_start, replay_source, replay_reading}
use Rattle.flame_top.specs.OrderReports.{source_read, start_read, ordered_run, run_reading, accepted_line, text_reading, migrated, migrate_source, migrate_reading, meadow_files, meadow_order, trial_of, order_reading, ordered, reading}
use Rattle.flame_top.specs.Standing.{IsLine}
use Rattle.flame_top.specs.TopLaws.{LinesAreTold}
use Rattle.flame_top.proofs.ReportLines.{usage_is_line, file_is_line, check_is_line, depend_is_line, population_is_line, sim_is_line, trace_is_line}
use Rattle.flame_top.proofs.RefusedInputs.{files_is_line}

-- ---- refusals

-- the refusal, where the answer is one, is such
abbrev RefusedBy : {X R : Type 0} → (R → Type 0) → Result X R → Type 0
RefusedBy such (Ok x) = Unit {0}
RefusedBy such (Err refusal) = such refusal

refused_behind :
    {X Y R : Type 0} (such : R → Type 0) (reading : Reading R X) (next : X → Reading R Y)
    → RefusedBy such reading.answer
    → ((x : X) → RefusedBy such (next x).answer)
    → RefusedBy such (reading >>= next).answer
unfolding ◌>>=◌
refused_behind {X = X} {R = R} such reading next here behind = go reading.answer here
  where
    go : (answer : Result X R) → RefusedBy such answer → RefusedBy such (answer_behind answer next)
    go (Ok x) is = behind x
    go (Err refusal) is = is

refused_unless :
    {X F R : Type 0} (such : R → Type 0) (refusal_of : F → R) (fault : Option F) (x : X)
    → ((f : F) → such (refusal_of f))
    → RefusedBy such (unless refusal_of fault x).answer
unfolding unless
refused_unless such refusal_of None x all = tt
refused_unless such refusal_of (Some fault) x all = all fault

refused_input :
    {X R : Type 0} (such : R → Type 0) (refusal_of : FileFault → R) (name : List ℕ) (found : Result X FileFault)
    → ((fault : FileFault) → such (refusal_of fault))
    → RefusedBy such (input refusal_of name found).answer
refused_input such refusal_of name (Ok x) all = tt
refused_input such refusal_of name (Err fault) all = all fault

refused_line :
    {X R : Type 0} (line : R → List ℕ) (answer : Result X R)
    → RefusedBy (λ refusal. IsLine (line refusal)) answer
    → RefusedBy IsLine (answer_told line answer)
refused_line line (Ok x) is = tt
refused_line line (Err refusal) is = is

-- ---- models

-- the refusal of the model whose root file has this name has a line
abbrev HasLine : List ℕ → Refusal → Type 0
HasLine root refusal = IsLine (load_line root refusal)

file_told : (root name : List ℕ) (fault : FileFault) → HasLine root (of_files (file_refusal name fault))
file_told root name file_fault.Missing = files_is_line root (load.Missing name) tt
file_told root name file_fault.TooLarge = files_is_line root (load.TooLarge name) tt
file_told root name file_fault.NotJson = files_is_line root (load.NotJson name) tt

text_told : (root name : List ℕ) (fault : TextFault) → HasLine root (of_files (text_refusal name fault))
text_told root name (text_fault.Lex fault) = files_is_line root (load.Lex name fault) tt
text_told root name (text_fault.Parse line fault) = files_is_line root (load.Parse name line fault) tt

module _ (root : List ℕ) (told : Files) where
  wide_told : (name : List ℕ) → RefusedBy (HasLine root) (wide_in told name).answer
  wide_told name =
      refused_behind (HasLine root)
      (input (λ fault. of_files (file_refusal name fault)) name (value_in told source_limit name))
      (wide_of_value name)
      (refused_input (HasLine root) (λ fault. of_files (file_refusal name fault)) name (value_in told source_limit name)
      (file_told root name))
      (λ value.
      refused_unless (HasLine root) (λ shape. of_files (load.Shape name shape)) _ _
      (λ shape. files_is_line root (load.Shape name shape) tt))

  all_told :
      (with_one : ModelFiles → List ℕ → Reading Refusal ModelFiles)
      → ((files : ModelFiles) (name : List ℕ) → RefusedBy (HasLine root) (with_one files name).answer)
      → (names : List (List ℕ)) (files : ModelFiles)
      → RefusedBy (HasLine root) (with_all with_one files names).answer
  all_told with_one one [] files = tt
  all_told with_one one (name ∷ names) files =
      refused_behind (HasLine root) (with_one files name) (λ more. with_all with_one more names) (one files name)
      (all_told with_one one names)

  step_told :
      (with_one : ModelFiles → List ℕ → Reading Refusal ModelFiles)
      (files : ModelFiles) (name : List ℕ) (is_read is_full : Bool)
      → ((files : ModelFiles) (name : List ℕ) → RefusedBy (HasLine root) (with_one files name).answer)
      → RefusedBy (HasLine root)
      (cond is_read (known files)
      (cond is_full (refused (of_files (load.TooMany name)))
      (wide_in told name >>= (λ wide. with_all with_one (and_file name wide files) wide.nested)))).answer
  step_told with_one files name true is_full one = tt
  step_told with_one files name false true one = files_is_line root (load.TooMany name) tt
  step_told with_one files name false false one =
      refused_behind (HasLine root) (wide_in told name)
      (λ wide. with_all with_one (and_file name wide files) wide.nested)
      (wide_told name)
      (λ wide. all_told with_one one wide.nested (and_file name wide files))

  name_told : (deep : ℕ) (files : ModelFiles) (name : List ℕ) → RefusedBy (HasLine root) (with_name deep told files name).answer
  name_told zero files name = files_is_line root (load.TooMany name) tt
  name_told (suc deep) files name =
      step_told (with_name deep told) files name (is_among name files.names) (nat_le most_files (length files.names))
      (name_told deep)

  flat_told : (files : ModelFiles) → RefusedBy (HasLine root) (model_of_files files).answer
  flat_told files =
      refused_behind (HasLine root) (flat_model files) named_model
      (refused_unless (HasLine root) (λ fault. of_files (load.Nest fault)) _ _
      (λ fault. files_is_line root (load.Nest fault) tt))
      (λ model.
      refused_unless (HasLine root) (λ fault. of_files (load.Name fault)) (first (name_faults model)) model
      (λ fault. files_is_line root (load.Name fault) tt))

  model_told : (name : List ℕ) → RefusedBy (HasLine root) (model_in told name).answer
  model_told name =
      refused_behind (HasLine root) (model_files told name) model_of_files (name_told (suc most_files) no_files name) flat_told

  module _ (read : Reader) where
    spelled_told : (name : List ℕ) (found : Result file.Unit TextFault) → RefusedBy (HasLine root) (spelled_in name found).answer
    spelled_told name (Ok unit) = tt
    spelled_told name (Err fault) = text_told root name fault

    unit_told : (name : List ℕ) → RefusedBy (HasLine root) (unit_in read told name).answer
    unit_told name =
        refused_behind (HasLine root)
        (input (λ fault. of_files (file_refusal name fault)) name (file_in told source_limit name))
        (λ bytes. spelled_in name (read bytes))
        (refused_input (HasLine root) (λ fault. of_files (file_refusal name fault)) name (file_in told source_limit name)
        (file_told root name))
        (λ bytes. spelled_told name (read bytes))

    units_told : (names : List (List ℕ)) → RefusedBy (HasLine root) (units_in read told names).answer
    units_told [] = tt
    units_told (name ∷ names) =
        refused_behind (HasLine root) (unit_in read told name)
        (λ unit. units_in read told names >>= (λ units. known (unit ∷ units)))
        (unit_told name)
        (λ unit.
        refused_behind (HasLine root) (units_in read told names) (λ units. known (unit ∷ units)) (units_told names)
        (λ units. tt))

    sound_told : (source : Source) → RefusedBy (HasLine root) (sound_source source).answer
    sound_told source =
        refused_behind (HasLine root) (checked_source source) planned_source
        (refused_unless (HasLine root) (λ fault. of_model (load.Check fault) source.model)
        (first (check_faults source.model source.units)) source
        (λ fault. check_is_line source.model fault))
        (λ checked.
        refused_unless (HasLine root) (λ fault. of_model (load.Depend fault) checked.model) (depend_fault checked.model) checked
        (λ fault. depend_is_line checked.model fault))

    source_told : (model : Model) → RefusedBy (HasLine root) (source_of read told model).answer
    source_told model =
        refused_behind (HasLine root) (units_in read told model.files)
        (λ units. sound_source (record { model = model; units = units }))
        (units_told model.files)
        (λ units. sound_told (record { model = model; units = units }))

    loading_told : (name : List ℕ) → RefusedBy (HasLine root) (loading read told name).answer
    loading_told name = refused_behind (HasLine root) (model_in told name) (source_of read told) (model_told name) source_told

-- the source of the files, where it is refused
source_read_told :
    (read : Reader) (told : Files) (name : List ℕ) → RefusedBy IsLine (source_read read told name).answer
source_read_told read told name = refused_line (load_line name) (loading read told name).answer (loading_told name told read name)

-- ---- populations

fault_told : (name : List ℕ) (fault : FileFault) → IsLine (file_fault_line name fault)
fault_told name file_fault.Missing = file_is_line (codes "missing") name
fault_told name file_fault.TooLarge = file_is_line (codes "too large") name
fault_told name file_fault.NotJson = file_is_line (codes "not JSON") name

start_read_told :
    (told : Files) (source : Source) (turns : ℕ) (name : List ℕ) → RefusedBy IsLine (start_read told source turns name).answer
start_read_told told source turns name =
    refused_line (start_line name) (starting told source.model turns name).answer
    (refused_behind (λ refusal. IsLine (start_line name refusal))
    (input of_file name (value_in told population_limit name))
    (start_in source.model turns)
    (refused_input (λ refusal. IsLine (start_line name refusal)) of_file name (value_in told population_limit name)
    (fault_told name))
    (λ value.
    refused_unless (λ refusal. IsLine (start_line name refusal)) of_population
    (first (population_faults source.model turns value))
    (start_of source.model value)
    (population_is_line name)))

-- ---- traces

trace_read_told : (told : Files) (name : List ℕ) → RefusedBy IsLine (trace_read told name).answer
trace_read_told told name =
    refused_line (file_fault_line name) (input (λ (fault : FileFault). fault) name (file_in told trace_limit name)).answer
    (refused_input (λ fault. IsLine (file_fault_line name fault)) (λ (fault : FileFault). fault) name
    (file_in told trace_limit name) (fault_told name))

-- ---- reports

-- the report has a line exactly where its status is not 0
record HasItsLine (report : Report) : Type 0 where
  quiet : report.status ≡ 0 → report.error ≡ []
  line : report.status ≢ 0 → IsLine report.error

abbrev IsLined : Result Report (List ℕ) → Type 0
IsLined (Ok report) = HasItsLine report
IsLined (Err line) = IsLine line

lined_behind :
    {X : Type 0} (reading : Reading (List ℕ) X) (next : X → Reading (List ℕ) Report)
    → RefusedBy IsLine reading.answer
    → ((x : X) → IsLined (next x).answer)
    → IsLined (reading >>= next).answer
unfolding ◌>>=◌
lined_behind {X = X} reading next here behind = go reading.answer here
  where
    go : (answer : Result X (List ℕ)) → RefusedBy IsLine answer → IsLined (answer_behind answer next)
    go (Ok x) is = behind x
    go (Err line) is = is

quiet_report : (report : Report) → report.status ≡ 0 → report.error ≡ [] → HasItsLine report
quiet_report report success none = record { quiet = λ same. none; line = λ other. absurd (other success) }

line_report : (report : Report) → report.status ≢ 0 → IsLine report.error → HasItsLine report
line_report report other line = record { quiet = λ same. absurd (other same); line = λ not. line }

lined_in : (answer : Result Report (List ℕ)) → IsLined answer → HasItsLine (report_or answer)
lined_in (Ok report) is = is
lined_in (Err line) is = line_report (refusal line 1) (λ same. omega (arith, same)) is

-- ---- orders

fault_lined :
    (report : Report) (model : Model) (fault : Option SimFault)
    → report.status ≡ fault_status fault
    → report.error ≡ fault_text model fault
    → HasItsLine report
fault_lined report model None status error = quiet_report report status error
fault_lined report model (Some fault) status error =
    let three : report.status ≡ 3 = status in
    line_report report (λ quiet. omega (arith, three, quiet)) (subst IsLine (sym error) (sim_is_line model fault))

run_lined : (order : RunOrder) (source : Source) (start : Start) → HasItsLine (ordered_run order source start)
run_lined order source start =
    fault_lined (ordered_run order source start) source.model (run source order.how.fuel order.turns start).fault refl refl

traced_lined : (model : Model) (out : List ℕ) (trace : Traced) (fault : Option SimFault) → HasItsLine (traced_with model out trace fault)
traced_lined model out trace None = quiet_report (traced_with model out trace None) refl refl
traced_lined model out trace (Some fault) =
    line_report (traced_with model out trace (Some fault)) (λ same. omega (arith, same)) (sim_is_line model fault)

replayed_lined : (name : List ℕ) (found : Verdict) → IsLined (replayed name found).answer
replayed_lined name (Yes events) = quiet_report (carried_out (printing (events_line (codes "replayed") events))) refl refl
replayed_lined name (Form line) = trace_is_line name (Form line)
replayed_lined name (OtherStart line) = trace_is_line name (OtherStart line)
replayed_lined name (Illegal line) = trace_is_line name (Illegal line)
replayed_lined name (Incomplete line) = trace_is_line name (Incomplete line)
replayed_lined name (OtherEnd line) = trace_is_line name (OtherEnd line)

module _ (read : Reader) (told : Files) where
  run_reading_lined : (order : RunOrder) → IsLined (run_reading read told order).answer
  run_reading_lined order =
      lined_behind (source_read read told order.model)
      (λ source. start_read told source order.turns order.pop >>= (λ start. known (ordered_run order source start)))
      (source_read_told read told order.model)
      (λ source.
      lined_behind (start_read told source order.turns order.pop) (λ start. known (ordered_run order source start))
      (start_read_told told source order.turns order.pop)
      (run_lined order source))

  text_lined : (name : List ℕ) (text_of : Source → List ℕ) → IsLined (text_reading read told name text_of).answer
  text_lined name text_of =
      lined_behind (source_read read told name) (λ source. known (carried_out (printing (text_of source))))
      (source_read_told read told name)
      (λ source. quiet_report (carried_out (printing (text_of source))) refl refl)

  migrate_lined : (model pop out : List ℕ) → IsLined (migrate_reading read told model pop out).answer
  migrate_lined model pop out =
      lined_behind (source_read read told model) (λ source. migrate_source told source pop out)
      (source_read_told read told model)
      (λ source.
      lined_behind (start_read told source 0 pop) (λ start. known (migrated out source start))
      (start_read_told told source 0 pop)
      (λ start. quiet_report (migrated out source start) refl refl))

  trace_lined : (order : TraceOrder) (trace : Traced) → IsLined (trace_reading read told order trace).answer
  trace_lined order trace =
      lined_behind (source_read read told order.model) (λ source. trace_source told order source trace)
      (source_read_told read told order.model)
      (λ source.
      lined_behind (start_read told source 1 order.pop) (λ start. known (traced order source start trace))
      (start_read_told told source 1 order.pop)
      (λ start. traced_lined source.model order.out trace (fault_of (next_turn order source start))))

  replay_lined : (model pop name : List ℕ) → IsLined (replay_reading read told model pop name).answer
  replay_lined model pop name =
      lined_behind (source_read read told model) (λ source. replay_source told source pop name)
      (source_read_told read told model)
      (λ source.
      lined_behind (start_read told source 1 pop) (λ start. replay_start told source start name)
      (start_read_told told source 1 pop)
      (λ start.
      lined_behind (trace_read told name) (λ bytes. replayed name (verdict source start bytes))
      (trace_read_told told name)
      (λ bytes. replayed_lined name (verdict source start bytes))))

trial_lined : (report : Report) → HasItsLine report → HasItsLine (trial_of report)
trial_lined report is = record { quiet = is.quiet; line = is.line }

order_lined : (read : Reader) (told : Files) (order : Order) (trace : Traced) → IsLined (order_reading read told order trace).answer
order_lined read told (Run order) trace = run_reading_lined read told order
order_lined read told (Check model) trace = text_lined read told model (λ source. accepted_line source.model)
order_lined read told (Graph model) trace = text_lined read told model (λ source. graph_lines source.model)
order_lined read told (Code model) trace = text_lined read told model code_lines
order_lined read told (Trial order) trace =
    let files = meadow_files order.seed order.size in
    let meadow = run_reading read files (meadow_order order) in
    trial_lined (report_in meadow) (lined_in meadow.answer (run_reading_lined read files (meadow_order order)))
order_lined read told (Migrate model pop out) trace = migrate_lined read told model pop out
order_lined read told (Trace order) trace = trace_lined read told order trace
order_lined read told (Replay model pop name) trace = replay_lined read told model pop name

ordered_lined : (read : Reader) (told : Files) (order : Result Order Usage) (trace : Traced) → IsLined (ordered read told order trace).answer
ordered_lined read told (Ok order) trace = order_lined read told order trace
ordered_lined read told (Err usage) trace =
    line_report (refusal (usage_line usage) 2) (λ same. omega (arith, same)) (usage_is_line usage)

pub lines_are_told : LinesAreTold
lines_are_told = record {
  quiet = λ read words told trace.
      (lined_in (reading read words told trace).answer (ordered_lined read told (order_of (map string_bytes words)) trace)).quiet;
  line = λ read words told trace.
      (lined_in (reading read words told trace).answer (ordered_lined read told (order_of (map string_bytes words)) trace)).line;
}
