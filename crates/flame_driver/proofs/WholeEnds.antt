-- A run that ends where nothing failed outside.
use Rattle.std.proofs.Common.{◌≢◌, ℕ, List, length, take, Option, Some, None, refl, sym, ap, ◌∙◌, subst, le_refl}
use Rattle.std.specs.Prelude.{ℤ}
use Rattle.std.proofs.lemmas.List.{take_all}
use Rattle.flame_outside.specs.Failures.{PutFailed, WriteFailed}
use Rattle.flame_outside.specs.Scripts.{Act, puts_in, Outside, StandsWhole, StandsAt, HasDone}
use Rattle.flame_outside.proofs.ScriptLemmas.{stands_all}
use Rattle.flame_outside.proofs.TellingLemmas.{whole_is_told}
use Rattle.flame_world.specs.declared.faults.SimFault.{SimFault}
use Rattle.flame_driver.specs.declared.drivers.DriveEnd.{DriveEnd}
use Rattle.flame_driver.specs.declared.drivers.DriveEnd.TheVariants.{Done, Fault, FileFault, OutputFault, NoMemory}
use Rattle.flame_driver.specs.Runs.{Run}
use Rattle.flame_driver.specs.RunScripts.{Writing, acts_of}
use Rattle.flame_driver.specs.DriveAnswers.{IsOver, Drives}
use Rattle.flame_driver.specs.WholeRuns.{end_by, IsWrittenWhole, UnfailingRunsAreWhole}
use Rattle.flame_driver.proofs.StageActs.{puts_in-acts_of}

module _ (writing : Writing) (run : Run) (files : ℕ) (old new : Outside) where
  abbrev acts : List Act
  acts = acts_of writing run.stages

  whole_over :
      (ended_by : Option SimFault) (done : ℕ)
      → HasDone acts done files old new
      → IsOver ended_by writing run done
      → IsWrittenWhole writing run (end_by ended_by) files old new
  whole_over ended_by done has over =
      let whole : StandsWhole acts old new
      = stands_all acts old new (subst (λ (n : ℕ). StandsAt acts n old new) over.all has.stands)
      in
      record {
        ends = ap end_by (sym over.fault);
        files = whole_is_told.files acts old new whole;
        lines = whole_is_told.output acts old new whole;
        number =
            has.count
            ∙ ap (λ (n : ℕ). puts_in (take n acts)) over.all
            ∙ ap puts_in (take_all (length acts) acts (le_refl (length acts)))
            ∙ puts_in-acts_of writing run.stages;
      }

  whole_at :
      (before : ℤ) (end : DriveEnd)
      → Drives writing before run end files old new
      → ¬ PutFailed old.depot new.depot
      → ¬ WriteFailed old.output new.output
      → end ≢ NoMemory
      → IsWrittenWhole writing run end files old new
  whole_at before Done d no_put no_write memory = whole_over None d.done d.has_done d.ends
  whole_at before (Fault fault) d no_put no_write memory = whole_over (Some fault) d.done d.has_done d.ends
  whole_at before (FileFault itno) d no_put no_write memory = absurd (no_put d.ends.file.fails.failed)
  whole_at before OutputFault d no_put no_write memory = absurd (no_write d.ends.fails.failed)
  whole_at before NoMemory d no_put no_write memory = absurd (memory refl)

pub unfailing_runs_are_whole : UnfailingRunsAreWhole
unfailing_runs_are_whole writing before run end files old new = whole_at writing run files old new before end
