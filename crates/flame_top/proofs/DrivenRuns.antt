-- What stands of a report whose run was driven.
use Rattle.std.proofs.Common.{◌≡◌, inl, inr, ℕ, List, Ok, sym, ap, subst}
use Rattle.std.specs.Prelude.{◌+◌, ℤ, pos, ◌+ℤ◌}
use Rattle.flame_outside.specs.Files.{Files}
use Rattle.flame_outside.specs.Devices.{SeenDepot, SeenSink}
use Rattle.flame_outside.specs.Frames.{OnlyReads}
use Rattle.flame_outside.specs.Scripts.{Outside, outside, HasDone, GoesOn}
use Rattle.flame_words.specs.declared.orders.RunOrder.{RunOrder}
use Rattle.flame_spec.specs.declared.outcomes.Source.{Source}
use Rattle.flame_popfile.specs.declared.formats.Format.{Format}
use Rattle.flame_popfile.specs.declared.starts.Start.{Start}
use Rattle.flame_load.specs.InputReads.{known}
use Rattle.flame_driver.specs.declared.drivers.DriveEnd.{DriveEnd}
use Rattle.flame_driver.specs.declared.drivers.DriveEnd.TheVariants as drive
use Rattle.flame_driver.specs.Runs.{Run, run}
use Rattle.flame_driver.specs.RunScripts.{Writing, written_as, acts_of}
use Rattle.flame_driver.specs.DriveAnswers.{EndsBy, Drives}
use Rattle.flame_top.specs.declared.ending.Ending.{Ending}
use Rattle.flame_top.specs.Reports.{fault_text, fault_status, run_report}
use Rattle.flame_top.specs.OrderReports.{version, ordered_run, start_read, run_of_source}
use Rattle.flame_top.specs.RunEndings.{run_ending, EndsRun}
use Rattle.flame_top.specs.Standing.{Stands, Carries, IsOfInput, Keeps}
use Rattle.flame_top.proofs.Standings.{carries_known, carries_given, read_is_of_input}
use Rattle.flame_top.proofs.ReportLines.{sim_is_line}

-- ---- by the end of the run

module _ (writing : Writing) (ran : Run) (next : ℤ) (files done : ℕ) (old new : Outside) (has : HasDone (acts_of writing ran.stages) done files old new) where
  stands_by_end :
      (end : DriveEnd)
      → EndsBy end writing ran next done old new
      → Stands (run_ending writing.model writing.prefix end) files (run_report writing ran) old new
  stands_by_end drive.Done e = record {
    done = done;
    has_done = has;
    ends = (ap fault_status e.fault, ap (fault_text writing.model) e.fault);
    whole = λ w. e.all;
    blames = tt;
  }
  stands_by_end (drive.Fault fault) e = record {
    done = done;
    has_done = has;
    ends = (ap fault_status e.fault, ap (fault_text writing.model) e.fault);
    whole = λ w. e.all;
    blames = tt;
  }
  stands_by_end (drive.FileFault itno) e =
      record { done = done; has_done = has; ends = tt; whole = λ w. absurd w; blames = e.file }
  stands_by_end drive.OutputFault e =
      record { done = done; has_done = has; ends = tt; whole = λ w. absurd w; blames = e }
  stands_by_end drive.NoMemory e =
      record { done = done; has_done = has; ends = tt; whole = λ w. absurd w; blames = tt }

  keeps_by_end :
      (end : DriveEnd)
      → EndsBy end writing ran next done old new
      → GoesOn old new
      → Keeps (run_ending writing.model writing.prefix end) files old new
  keeps_by_end drive.Done e on =
      record { caused = tt; ordered = λ r. r; line = tt; input = λ i. absurd i; goes_on = on }
  keeps_by_end (drive.Fault fault) e on = record {
    caused = tt;
    ordered = λ r. r;
    line = sim_is_line writing.model fault;
    input = λ i. absurd i;
    goes_on = on;
  }
  keeps_by_end (drive.FileFault itno) e on =
      record { caused = e.file.fails.failed; ordered = λ r. r; line = tt; input = λ i. absurd i; goes_on = on }
  keeps_by_end drive.OutputFault e on =
      record { caused = e.fails.failed; ordered = λ r. r; line = tt; input = λ i. absurd i; goes_on = on }
  keeps_by_end drive.NoMemory e on =
      record { caused = tt; ordered = λ r. r; line = tt; input = λ i. absurd i; goes_on = on }

driven_by_end : (writing : Writing) (end : DriveEnd) → ¬ IsOfInput (run_ending writing.model writing.prefix end)
driven_by_end writing drive.Done = λ i. i
driven_by_end writing (drive.Fault fault) = λ i. i
driven_by_end writing (drive.FileFault itno) = λ i. i
driven_by_end writing drive.OutputFault = λ i. i
driven_by_end writing drive.NoMemory = λ i. i

-- ---- by the ending of the order

module _ (writing : Writing) (before : ℤ) (ran : Run) (end : DriveEnd) (ending : Ending) (files : ℕ) (old new : Outside) where
  pub run_stands :
      EndsRun writing.model writing.prefix end ending
      → Drives writing before ran end files old new
      → Stands ending files (run_report writing ran) old new
  run_stands (inl same) d =
      subst (λ (e : Ending). Stands e files (run_report writing ran) old new) (sym same)
      (stands_by_end writing ran (before +ℤ pos (files + 1)) files d.done old new d.has_done end d.ends)
  run_stands (inr lacks) d =
      subst (λ (e : Ending). Stands e files (run_report writing ran) old new) (sym lacks)
      (record { done = d.done; has_done = d.has_done; ends = tt; whole = λ w. absurd w; blames = tt })

  pub run_keeps :
      EndsRun writing.model writing.prefix end ending
      → Drives writing before ran end files old new
      → GoesOn old new
      → Keeps ending files old new
  run_keeps (inl same) d on =
      subst (λ (e : Ending). Keeps e files old new) (sym same)
      (keeps_by_end writing ran (before +ℤ pos (files + 1)) files d.done old new d.has_done end d.ends on)
  run_keeps (inr lacks) d on =
      subst (λ (e : Ending). Keeps e files old new) (sym lacks)
      (record { caused = tt; ordered = λ r. r; line = tt; input = λ i. absurd i; goes_on = on })

  -- no input is to blame
  pub run_is_driven : EndsRun writing.model writing.prefix end ending → ¬ IsOfInput ending
  run_is_driven (inl same) = subst (λ (e : Ending). ¬ IsOfInput e) (sym same) (driven_by_end writing end)
  run_is_driven (inr lacks) = subst (λ (e : Ending). ¬ IsOfInput e) (sym lacks) (λ i. i)

-- ---- as it is ordered

-- how a run is written depends on its order alone
pub ordered_stands :
    (order : RunOrder) (source : Source) (start : Start) (format : Format) (prefix : List ℕ) (end : DriveEnd) (ending : Ending) (files : ℕ) (old new : Outside)
    → format ≡ version order.format
    → prefix ≡ order.out
    → EndsRun source.model prefix end ending
    → Drives (written_as source.model format prefix) start.itno (run source order.how.fuel order.turns start) end files old new
    → Stands ending files (ordered_run order source start) old new
ordered_stands order source start format prefix end ending files old new f p ends d =
    let ran = run source order.how.fuel order.turns start in
    let written : written_as source.model format prefix ≡ written_as source.model (version order.format) order.out
    = λ i. written_as source.model (f i) (p i) in
    subst (λ (writing : Writing). Stands ending files (run_report writing ran) old new) written
    (run_stands (written_as source.model format prefix) start.itno ran end ending files old new ends d)

-- a run of a source, behind the population from which it starts
pub run_carries :
    (told : Files) (order : RunOrder) (source : Source) (start : Start) (ending : Ending) (files : ℕ)
    (old mid : SeenDepot) (out : SeenSink) (new : Outside)
    → OnlyReads old mid
    → (start_read told source order.turns order.pop).answer ≡ Ok start
    → ¬ IsOfInput ending
    → Stands ending files (ordered_run order source start) (outside mid out) new
    → Carries (run_of_source told order source) ending files (outside old out) new
run_carries told order source start ending files old mid out new only given driven s =
    carries_given (start_read told source order.turns order.pop) (λ st. known (ordered_run order source st)) start
    ending files old mid out new only given
    (carries_known (ordered_run order source start) ending files (outside mid out) new
    (λ r. driven (read_is_of_input ending r)) s)
