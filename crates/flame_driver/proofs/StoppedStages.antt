-- An iteration that is not written whole: what stands of a run that goes on with it.
use Rattle.std.proofs.Common.{◌≡◌, List, [], ◌∷◌, refl, sym, ap, ◌∙◌, arith}
use Rattle.std.specs.Prelude.{ℤ}
use Rattle.flame_outside.specs.Files.{with_file}
use Rattle.flame_outside.specs.Devices.{SeenDepot, SeenSink}
use Rattle.flame_outside.specs.Frames.{OnlyPuts}
use Rattle.flame_outside.specs.Scripts.{Act, puts, prints, outside, told}
use Rattle.flame_outside.proofs.FrameLemmas.{grows_same, puts_go_on}
use Rattle.flame_outside.proofs.ScriptLemmas.{put_stands, first_stand, failed_print, second_of_two}
use Rattle.flame_driver.specs.declared.drivers.DriveEnd.{DriveEnd}
use Rattle.flame_driver.specs.declared.drivers.DriveEnd.TheVariants.{Done, Fault, FileFault, OutputFault, NoMemory}
use Rattle.flame_driver.specs.Runs.{Stage, Run, and_run}
use Rattle.flame_driver.specs.RunScripts.{Writing, file_name, stage_text, stage_line, acts_of}
use Rattle.flame_driver.specs.StageStops.{StopsLine, StopsStage}

-- ---- an iteration that is done

module _ (writing : Writing) (done : Stage) where
  -- its line, and what is written of the run behind it
  abbrev line_and : Run → List Act
  line_and later = prints (stage_line done) ∷ acts_of writing later.stages

  -- its file stands, and its line is not printed whole
  pub line_stops :
      (end : DriveEnd) (depot depot' : SeenDepot) (old new : SeenSink)
      → depot'.files ≡ with_file (file_name writing.prefix done.itno) (stage_text writing done) depot.files
      → OnlyPuts depot depot'
      → StopsLine (stage_line done) old new end
      → StopsStage writing done end 1 (outside depot old) (outside depot' new)
  line_stops Done depot depot' old new put only s = λ before later is. absurd s
  line_stops (Fault fault) depot depot' old new put only s = λ before later is. absurd s
  line_stops (FileFault number) depot depot' old new put only s = λ before later is. absurd s
  line_stops OutputFault depot depot' old new put only s = λ before later is. record {
    done = 1;
    has_done = record {
      stands =
          second_of_two (puts (file_name writing.prefix done.itno) (stage_text writing done) ∷ []) (line_and later) 0
          (outside depot old) (outside depot' old) (outside depot' new)
          (put_stands (file_name writing.prefix done.itno) (stage_text writing done) depot depot' old put)
          (puts_go_on depot depot' old old only (grows_same old))
          (failed_print (stage_line done) (acts_of writing later.stages) depot' old new s.0 s.1);
      count = refl;
    };
    ends = record {
      text = stage_line done;
      fails = record { rest = acts_of writing later.stages; next = refl; failed = s.0 };
    };
  }
  line_stops NoMemory depot depot' old new put only s = λ before later is.
      let stands
      = ap (λ (output : SeenSink). told (outside depot' output)) s
      ∙ put_stands (file_name writing.prefix done.itno) (stage_text writing done) depot depot' old put
      in
      record {
        done = 1;
        has_done = record {
          stands =
              first_stand
              (puts (file_name writing.prefix done.itno) (stage_text writing done) ∷ line_and later) 1
              (outside depot old) (outside depot' new)
              (omega arith) stands;
          count = refl;
        };
        ends = stands;
      }
