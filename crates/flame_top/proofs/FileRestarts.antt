-- A run that is begun again from a file of its own.
use Rattle.std.proofs.Common.{◌≡◌, ℕ, suc, ◌+◌, ◌≤◌, Bool, List, [], map, length, Option, Some, None, Result, Ok, Err, refl, sym, ap, ◌∙◌, subst, cond, arith}
use Rattle.std.specs.Prelude.{slice_get, option_map}
use Rattle.std.proofs.lemmas.List.{length-map}
use Rattle.std.specs.FinMap.{get}
use Rattle.std.proofs.lemmas.Bool.{le-leb}
use Rattle.std.proofs.lemmas.Option.{slice_get-map}
use Rattle.std.proofs.lemmas.List.Concat.{flat_map-append}
use Rattle.serde_json.specs.Data.{Data}
use Rattle.flame_outside.specs.Files.{Files}
use Rattle.flame_outside.specs.WhatIsTold.{files_by}
use Rattle.flame_words.specs.declared.orders.RunOrder.{RunOrder}
use Rattle.flame_spec.specs.declared.outcomes.Source.{Source}
use Rattle.flame_spec.specs.Lists.{first}
use Rattle.flame_world.specs.declared.faults.SimFault.{SimFault}
use Rattle.flame_popfile.specs.declared.starts.Start.{Start}
use Rattle.flame_popfile.specs.PopulationFaults.{population_faults}
use Rattle.flame_popfile.specs.PopulationStarts.{start_of}
use Rattle.flame_popfile.specs.StartLaws.{ReadPopulationsFit}
use Rattle.flame_load.specs.declared.faults.FileFault.{FileFault}
use Rattle.flame_load.specs.declared.faults.FileFault.TheVariants.{TooLarge}
use Rattle.flame_load.specs.FileReads.{within, value_of, value_in, if_json}
use Rattle.flame_load.specs.InputReads.{Reading, known, input, found_or}
use Rattle.flame_load.specs.LoadLaws.{LoadedAreAccepted, LoadedWriteInts, OnlyInputsCount}
use Rattle.flame_load.specs.JsonReads.{json_of}
use Rattle.flame_load.specs.LoadRefusals.{Refusal}
use Rattle.flame_load.specs.LoadedSources.{loading}
use Rattle.flame_load.specs.StartReads.{of_file, of_population, population_limit, start_in, starting}
use Rattle.flame_load.specs.TextReads.{Reader}
use Rattle.flame_load.proofs.KnownOrRefused.{was_faultless, faultless, none_first}
use Rattle.flame_load.proofs.Leftovers.{rest_behind, given_by_both}
use Rattle.flame_driver.specs.Runs.{Stage, Run, run}
use Rattle.flame_driver.specs.RunScripts.{Writing, written_as, file_name, stage_text, stage_acts, acts_of}
use Rattle.flame_driver.specs.IteratedRuns.{RunsAreIterated, StagesAreWritten, and_then}
use Rattle.flame_driver.specs.RestartLaws.{WritesBoth, RunsRestart}
use Rattle.flame_top.specs.Reports.{Report, fault_text, fault_status, run_report, report_or, report_in}
use Rattle.flame_top.specs.RefusalLines.{answer_told, in_lines, load_line, start_line}
use Rattle.flame_top.specs.OrderReports.{source_read, start_read, version, ordered_run, run_of_source, run_reading}
use Rattle.flame_top.specs.RestartedFiles.{with_turns, report_of_turns, begun_again, IsOfBoth, RunsRestartFromFiles, RunsRestartFromOwnFiles}
use Rattle.flame_top.proofs.GivenInputs.{given_in_lines}
use Rattle.flame_top.proofs.LeftFiles.{left_agree, last_is_left}
use Rattle.flame_top.proofs.OneAnswers.{one_answer}

-- ---- what was read

-- what is given with the lines of refusals is given
given_without_lines :
    {R X : Type 0} (line : R → List ℕ) (reading : Reading R X) (x : X)
    → (in_lines line reading).answer ≡ Ok x
    → reading.answer ≡ Ok x
given_without_lines {R = R} {X = X} line reading x given = go reading.answer given
  where
    go : (answer : Result X R) → answer_told line answer ≡ Ok x → answer ≡ Ok x
    go (Ok y) is = let same : y ≡ x = cc in ap Ok same
    go (Err refusal) is = absurd (cc)

was_found : {R X : Type 0} (refusal_of : FileFault → R) (found : Result X FileFault) (x : X) → found_or refusal_of found ≡ Ok x → found ≡ Ok x
was_found refusal_of (Ok y) x is = let same : y ≡ x = cc in ap Ok same
was_found refusal_of (Err fault) x is = absurd (cc)

-- a report with status 0 is of inputs that are read
read_where_fine : (reading : Reading (List ℕ) Report) → (report_in reading).status ≡ 0 → reading.answer ≡ Ok (report_in reading)
read_where_fine reading fine = go reading.answer fine
  where
    go : (answer : Result Report (List ℕ)) → (report_or answer).status ≡ 0 → answer ≡ Ok (report_or answer)
    go (Ok report) fine = refl
    go (Err line) fine = let differs : 1 ≡ 0 = fine in absurd (omega (arith, differs))

-- the inputs of a run, and its report by them
record RunIsRead (read : Reader) (told : Files) (order : RunOrder) (report : Report) : Type 0 where
  source : Source
  value : Data
  loaded : (loading read told order.model).answer ≡ Ok source
  found : value_in told population_limit order.pop ≡ Ok value
  clean : population_faults source.model order.turns value ≡ []
  is : ordered_run order source (start_of source.model value) ≡ report

run_is_read : (read : Reader) (told : Files) (order : RunOrder) (report : Report) → (run_reading read told order).answer ≡ Ok report → RunIsRead read told order report
run_is_read read told order report given =
    let outer = given_by_both (source_read read told order.model) (run_of_source told order) report given in
    let source : Source = outer.0 in
    let inner = given_by_both (start_read told source order.turns order.pop) (λ start. known (ordered_run order source start)) report outer.2 in
    let start : Start = inner.0 in
    let begun = given_without_lines (start_line order.pop) (starting told source.model order.turns order.pop) start inner.1 in
    let valued = given_by_both (input of_file order.pop (value_in told population_limit order.pop)) (start_in source.model order.turns) start begun in
    let value : Data = valued.0 in
    let none = was_faultless of_population (first (population_faults source.model order.turns value)) (start_of source.model value) start valued.2 in
    let ran : Report = ordered_run order source start in
    let same : ran ≡ report = one_answer (known ran).answer ran report refl inner.2 in
    record {
      source = source;
      value = value;
      loaded = given_without_lines (load_line order.model) (loading read told order.model) source outer.1;
      found = was_found of_file (value_in told population_limit order.pop) value valued.1;
      clean = none_first (population_faults source.model order.turns value) none.0;
      is = ap (ordered_run order source) none.1 ∙ same;
    }

-- ---- what is read again

-- the value of a file that is small enough
value_again :
    (others : Files) (pop bytes : List ℕ) (value : Data)
    → get others pop ≡ Some bytes
    → length bytes ≤ population_limit
    → if_json (json_of bytes) ≡ Ok value
    → value_in others population_limit pop ≡ Ok value
value_again others pop bytes value there small is =
    ap (λ (found : Option (List ℕ)). value_of (within population_limit found)) there
    ∙ ap (λ (b : Bool). value_of (cond b (Ok bytes) (Err TooLarge))) (le-leb (length bytes) population_limit small)
    ∙ is

-- a run whose source is loaded and whose population has no fault
read_again :
    (read : Reader) (others : Files) (order : RunOrder) (source : Source) (value : Data)
    → (loading read others order.model).answer ≡ Ok source
    → value_in others population_limit order.pop ≡ Ok value
    → population_faults source.model order.turns value ≡ []
    → (run_reading read others order).answer ≡ Ok (ordered_run order source (start_of source.model value))
read_again read others order source value loaded found clean =
    let start : Start = start_of source.model value in
    let file = input of_file order.pop (value_in others population_limit order.pop) in
    let begun : (starting others source.model order.turns order.pop).answer ≡ Ok start
    = (rest_behind file (start_in source.model order.turns) value (ap (found_or of_file) found)).answer
    ∙ faultless of_population (population_faults source.model order.turns value) start clean
    in
    (rest_behind (source_read read others order.model) (run_of_source others order) source
    (given_in_lines (load_line order.model) (loading read others order.model) source loaded)).answer
    ∙ (rest_behind (start_read others source order.turns order.pop) (λ s. known (ordered_run order source s)) start
    (given_in_lines (start_line order.pop) (starting others source.model order.turns order.pop) start begun)).answer

-- ---- the last file

some_of_map : {X Y : Type 0} (f : X → Y) (o : Option X) (y : Y) → option_map f o ≡ Some y → (x : X) × (o ≡ Some x) × (f x ≡ y)
some_of_map f None y is = absurd (cc)
some_of_map f (Some x) y is = (x, refl, cc)

unfaulted : (fault : Option SimFault) → fault_status fault ≡ 0 → fault ≡ None
unfaulted None fine = refl
unfaulted (Some fault) fine = let differs : 3 ≡ 0 = fine in absurd (omega (arith, differs))

-- the iteration whose file it is
last_stage :
    StagesAreWritten
    → (writing : Writing) (stages : List Stage) (place : ℕ) (file : List ℕ × List ℕ)
    → slice_get (files_by (acts_of writing stages)) place ≡ Some file
    → (last : Stage) × (slice_get stages place ≡ Some last) × (stage_text writing last ≡ file.1)
last_stage written writing stages place file found =
    let named : Stage → List ℕ × List ℕ = λ done. (file_name writing.prefix done.itno, stage_text writing done) in
    let listed : slice_get (map named stages) place ≡ Some file
    = ap (λ files. slice_get files place) (sym (written.files writing stages)) ∙ found
    in
    let last = some_of_map named (slice_get stages place) file (sym (slice_get-map named stages place) ∙ listed) in
    (last.0, last.1, ap (λ (f : List ℕ × List ℕ). f.1) last.2)

-- ---- both runs

joined_reports :
    (writing : Writing) (whole one two : Run)
    → whole ≡ and_then one.stages two
    → WritesBoth writing whole one two
    → IsOfBoth (run_report writing whole) (run_report writing one) (run_report writing two)
joined_reports writing whole one two goes_on both = record {
  acts = ap (λ (r : Run). acts_of writing r.stages) goes_on ∙ flat_map-append (stage_acts writing) one.stages two.stages;
  files = both.files;
  output = both.lines;
  error = ap (λ (r : Run). fault_text writing.model r.fault) goes_on;
  status = ap (λ (r : Run). fault_status r.fault) goes_on;
}

-- the first iterations of a run whose inputs are read, where they have no fault
record FirstRun (read : Reader) (told : Files) (order : RunOrder) (place more : ℕ) (whole : Report) : Type 0 where
  source : Source
  value : Data
  loaded : (loading read told order.model).answer ≡ Ok source
  clean : population_faults source.model (place + 1 + more) value ≡ []
  none : (run source order.how.fuel (place + 1) (start_of source.model value)).fault ≡ None
  all : ordered_run (with_turns (place + 1 + more) order) source (start_of source.model value) ≡ whole
  one : ordered_run (with_turns (place + 1) order) source (start_of source.model value) ≡ report_of_turns read told (place + 1) order

first_run :
    (read : Reader) (told : Files) (order : RunOrder) (place more : ℕ) (whole : Report)
    → (run_reading read told (with_turns (place + 1 + more) order)).answer ≡ Ok whole
    → (report_of_turns read told (place + 1) order).status ≡ 0
    → FirstRun read told order place more whole
first_run read told order place more whole given fine =
    let report : Report = report_of_turns read told (place + 1) order in
    let w = run_is_read read told (with_turns (place + 1 + more) order) whole given in
    let f =
    run_is_read read told (with_turns (place + 1) order) report
    (read_where_fine (run_reading read told (with_turns (place + 1) order)) fine)
    in
    let source : Source = w.source in
    let same_source : f.source ≡ source = one_answer (loading read told order.model).answer f.source source f.loaded w.loaded in
    let same_value : f.value ≡ w.value = one_answer (value_in told population_limit order.pop) f.value w.value f.found w.found in
    let one : ordered_run (with_turns (place + 1) order) source (start_of source.model w.value) ≡ report
    = subst (λ (s : Source). ordered_run (with_turns (place + 1) order) s (start_of s.model w.value) ≡ report) same_source
    (subst (λ (v : Data). ordered_run (with_turns (place + 1) order) f.source (start_of f.source.model v) ≡ report) same_value f.is)
    in
    record {
      source = source;
      value = w.value;
      loaded = w.loaded;
      clean = w.clean;
      none =
          unfaulted (run source order.how.fuel (place + 1) (start_of source.model w.value)).fault
          (ap (λ (r : Report). r.status) one ∙ fine);
      all = w.is;
      one = one;
    }

module _
    (restart : RunsRestart) (written : StagesAreWritten) (fit : ReadPopulationsFit)
    (accepted : LoadedAreAccepted) (ints : LoadedWriteInts) (only : OnlyInputsCount) where
  pub runs_restart_from_files : RunsRestartFromFiles
  runs_restart_from_files read told others order place more whole file pop reads given fine found small agree there =
      let report : Report = report_of_turns read told (place + 1) order in
      let begun = first_run read told order place more whole given fine in
      let source : Source = begun.source in
      let start : Start = start_of source.model begun.value in
      let writing : Writing = written_as source.model (version order.format) order.out in
      let whole_run : Run = run source order.how.fuel (place + 1 + more) start in
      let first_part : Run = run source order.how.fuel (place + 1) start in
      let last =
      last_stage written writing first_part.stages place file
      (ap (λ (r : Report). slice_get (files_by r.acts) place) begun.one ∙ found)
      in
      let sound = accepted read told order.model source begun.loaded in
      let is = fit source.model (place + 1 + more) begun.value sound.named begun.clean in
      let goes =
      restart source order.how.fuel place more start last.0 (version order.format) sound
      (ints read told order.model source reads begun.loaded) is.world is.number begun.none last.1
      in
      let again : RunOrder = begun_again pop more order in
      let loaded : (loading read others order.model).answer ≡ Ok source
      = ap (λ (r : Reading Refusal Source). r.answer) (sym (only read told others order.model agree)) ∙ begun.loaded
      in
      let value =
      value_again others pop file.1 goes.value there small (ap if_json (ap json_of (sym last.2) ∙ goes.is_read))
      in
      let second_part : Run = run source order.how.fuel more (start_of source.model goes.value) in
      let joined = joined_reports writing whole_run first_part second_part goes.goes_on (goes.written writing) in
      record {
        second = ordered_run again source (start_of source.model goes.value);
        inputs = read_again read others again source goes.value loaded value goes.faultless;
        report =
            subst (λ (r : Report). IsOfBoth r report (run_report writing second_part)) begun.all
            (subst (λ (r : Report). IsOfBoth (run_report writing whole_run) r (run_report writing second_part)) begun.one joined);
      }

  -- as many files as iterations
  files_of_turns :
      RunsAreIterated
      → (read : Reader) (told : Files) (order : RunOrder) (place more : ℕ) (whole : Report)
      → FirstRun read told order place more whole
      → length (files_by (report_of_turns read told (place + 1) order).acts) ≡ suc place
  files_of_turns iterated read told order place more whole begun =
      let start : Start = start_of begun.source.model begun.value in
      let writing : Writing = written_as begun.source.model (version order.format) order.out in
      let first_part : Run = run begun.source order.how.fuel (place + 1) start in
      let named : Stage → List ℕ × List ℕ = λ done. (file_name writing.prefix done.itno, stage_text writing done) in
      let count : length first_part.stages ≡ place + 1
      = iterated.whole begun.source order.how.fuel (place + 1) start begun.none
      in
      let listed : length (files_by (report_of_turns read told (place + 1) order).acts) ≡ place + 1
      = ap (λ (r : Report). length (files_by r.acts)) (sym begun.one)
      ∙ ap length (written.files writing first_part.stages)
      ∙ length-map first_part.stages named
      ∙ count
      in
      omega (arith, listed)

  pub runs_restart_from_own_files : RunsAreIterated → RunsRestartFromOwnFiles
  runs_restart_from_own_files iterated read told left order place more whole file reads given fine found small are apart =
      let files = files_by (report_of_turns read told (place + 1) order).acts in
      let begun = first_run read told order place more whole given fine in
      let count = files_of_turns iterated read told order place more whole begun in
      runs_restart_from_files read told left order place more whole file file.0 reads given fine found small
      (left_agree (loading read told order.model).inputs files told left are apart)
      (last_is_left files told left place file are found count)
