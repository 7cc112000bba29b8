-- What a run prints, by its files that stand.
use Rattle.std.proofs.Common.{◌≡◌, ◌≤◌, ◌⊎◌, inl, inr, ℕ, List, length, take, Ok, ap, ◌∙◌, subst, le_refl}
use Rattle.std.specs.Prelude.{slice_get}
use Rattle.std.proofs.lemmas.List.{take_all}
use Rattle.flame_outside.specs.Devices.{SeenSink}
use Rattle.flame_outside.specs.Printed.{Prints}
use Rattle.flame_outside.specs.Scripts.{Act, puts, prints, puts_in, Outside, StandsAt, HasDone, FailsAt}
use Rattle.flame_outside.specs.ScriptLaws.{WholeScripts}
use Rattle.flame_outside.specs.WhatIsTold.{files_by, WholeIsTold}
use Rattle.flame_words.specs.declared.orders.RunOrder.{RunOrder}
use Rattle.flame_spec.specs.declared.outcomes.Source.{Source}
use Rattle.flame_popfile.specs.declared.starts.Start.{Start}
use Rattle.flame_load.specs.InputReads.{Reading}
use Rattle.flame_driver.specs.Runs.{run}
use Rattle.flame_driver.specs.RunScripts.{written_as}
use Rattle.flame_driver.specs.IteratedRuns.{StagesAreWritten}
use Rattle.flame_driver.specs.LineLaws.{PrintsLines, LinesFollowFiles}
use Rattle.flame_top.specs.CallAnswers.{Tells, FailsToWrite, CarriesOut, failed_act_line}
use Rattle.flame_top.specs.Reports.{Report, report_or}
use Rattle.flame_top.specs.OrderReports.{version, ordered_run, run_reading}
use Rattle.flame_top.specs.TopLaws.{StopsAtFile, StopsAtOutput, IsPrinted, LinesOfRuns}
use Rattle.flame_top.proofs.CarriedReports.{next_file}

module _ (follow : LinesFollowFiles) (order : RunOrder) (source : Source) (start : Start) where
  front_of_lines :
      (reading : Reading (List ℕ) Report) (status files : ℕ) (old new : Outside) (err err' : SeenSink)
      → reading.answer ≡ Ok (ordered_run order source start)
      → CarriesOut reading status files old new err err'
      → PrintsLines (run source order.how.fuel order.turns start).stages files old.output new.output
  front_of_lines reading status files old new err err' given c =
      follow.front
      (written_as source.model (version order.format) order.out)
      (run source order.how.fuel order.turns start).stages
      c.done files old new
      (subst (λ (report : Report). HasDone report.acts c.done files old new) (ap report_or given) c.has_done)

  stops_by :
      (act : Act) (done files : ℕ) (old new : Outside) (err err' : SeenSink)
      → HasDone (ordered_run order source start).acts done files old new
      → FailsAt (ordered_run order source start).acts done act old new
      → Tells (failed_act_line act) err err'
      → StopsAtFile
      (ordered_run order source start)
      (run source order.how.fuel order.turns start).stages
      files old new err err'
      ⊎ StopsAtOutput old new err err'
  stops_by (puts name bytes) done files old new err err' has fails line =
      let acts = (ordered_run order source start).acts in
      inl (record {
        name = name;
        bytes = bytes;
        next =
            ap (λ (count : ℕ). slice_get (files_by acts) count) has.count
            ∙ next_file done acts fails.rest name bytes fails.next;
        failed = fails.failed;
        named = line;
        lines =
            follow.whole
            (written_as source.model (version order.format) order.out)
            (run source order.how.fuel order.turns start).stages
            done files name bytes old new has fails;
      })
  stops_by (prints text) done files old new err err' has fails line = inr (record { failed = fails.failed; named = line })

  whole_lines :
      (reading : Reading (List ℕ) Report) (status files : ℕ) (old new : Outside) (err err' : SeenSink)
      → reading.answer ≡ Ok (ordered_run order source start)
      → CarriesOut reading status files old new err err'
      → status ≡ 6
      → StopsAtFile
      (ordered_run order source start)
      (run source order.how.fuel order.turns start).stages
      files old new err err'
      ⊎ StopsAtOutput old new err err'
  whole_lines reading status files old new err err' given c six =
      let same = ap report_or given in
      let w =
      subst (λ (report : Report). FailsToWrite report.acts c.done old new err err') same (c.write_fault six)
      in
      stops_by w.act c.done files old new err err'
      (subst (λ (report : Report). HasDone report.acts c.done files old new) same c.has_done)
      w.fails w.line

module _ (whole_told : WholeIsTold) (scripts : WholeScripts) (written : StagesAreWritten) where
  all_lines :
      (order : RunOrder) (source : Source) (start : Start)
      (reading : Reading (List ℕ) Report) (status files : ℕ) (old new : Outside) (err err' : SeenSink)
      → reading.answer ≡ Ok (ordered_run order source start)
      → CarriesOut reading status files old new err err'
      → status ≤ 3
      → IsPrinted (run source order.how.fuel order.turns start).stages files old new
  all_lines order source start reading status files old new err err' given c few =
      let acts = (ordered_run order source start).acts in
      let writing = written_as source.model (version order.format) order.out in
      let stages = (run source order.how.fuel order.turns start).stages in
      let same = ap report_or given in
      let all : c.done ≡ length acts = (c.whole few).all ∙ ap (λ (report : Report). length report.acts) same in
      let has = subst (λ (report : Report). HasDone report.acts c.done files old new) same c.has_done in
      let at_end = subst (λ (done : ℕ). StandsAt acts done old new) all has.stands in
      record {
        count =
            has.count
            ∙ ap (λ (done : ℕ). puts_in (take done acts)) all
            ∙ ap puts_in (take_all (length acts) acts (le_refl (length acts)))
            ∙ written.count writing stages;
        lines =
            subst (λ (text : List ℕ). Prints text old.output new.output) (written.lines writing stages)
            (whole_told.output acts old new (scripts.stands_all acts old new at_end));
      }

pub lines_of_runs : LinesFollowFiles → WholeIsTold → WholeScripts → StagesAreWritten → LinesOfRuns
lines_of_runs follow whole_told scripts written = record {
  front = λ read told order source start status files old new err err' given c.
      front_of_lines follow order source start (run_reading read told order) status files old new err err' given c;
  whole = λ read told order source start status files old new err err' given c six.
      whole_lines follow order source start (run_reading read told order) status files old new err err' given c six;
  all = λ read told order source start status files old new err err' given c few.
      all_lines whole_told scripts written order source start (run_reading read told order) status files old new err err' given c few;
}
