-- How one iteration of a run goes on or stops.
use Rattle.std.specs.Prelude.{◌≡◌, ℕ, ℤ, pos, ◌+ℤ◌, List}
use Rattle.flame_outside.specs.Devices.{SeenDepot, SeenSink}
use Rattle.flame_outside.specs.Printed.{PrintsFront}
use Rattle.flame_outside.specs.Failures.{PutFailed, WriteFailed}
use Rattle.flame_outside.specs.Scripts.{Outside, StandsWhole}
use Rattle.flame_world.specs.declared.turns.Turn.{Turn}
use Rattle.flame_world.specs.declared.turns.Turn.TheVariants.{Done}
use Rattle.flame_world.specs.declared.worlds.Boards.{Boards}
use Rattle.flame_popfile.specs.declared.starts.Start.{Start}
use Rattle.flame_driver.specs.declared.drivers.DriveEnd.{DriveEnd}
use Rattle.flame_driver.specs.declared.drivers.DriveEnd.TheVariants.{FileFault, OutputFault, NoMemory}
use Rattle.flame_driver.specs.declared.plans.Plan.{Plan}
use Rattle.flame_driver.specs.Runs.{Stage, stage, Run, and_run}
use Rattle.flame_driver.specs.RunScripts.{Writing, written_as, stage_acts}
use Rattle.flame_driver.specs.DriveAnswers.{Drives}

-- how a plan has iterations written [own]
abbrev pub writing_of : Plan → Writing
writing_of plan = written_as plan.program.now.model plan.format plan.prefix.now

-- the file of the iteration of this number was not put: a put of it failed, or nothing changed [own]
abbrev pub StopsPut : ℤ → SeenDepot → SeenDepot → DriveEnd → Type 0
StopsPut itno old new (FileFault number) = (number ≡ itno) × PutFailed old new
StopsPut itno old new NoMemory = new ≡ old
StopsPut itno old new end = ⊥

-- the line was not printed whole: a write failed in it, or nothing changed [own]
abbrev pub StopsLine : List ℕ → SeenSink → SeenSink → DriveEnd → Type 0
StopsLine line old new OutputFault = WriteFailed old new × PrintsFront line old new
StopsLine line old new NoMemory = new ≡ old
StopsLine line old new end = ⊥

-- an iteration that is done was not written whole: of each run that goes on with it this stands [own]
abbrev pub StopsStage : Writing → Stage → DriveEnd → ℕ → Outside → Outside → Type 0
StopsStage writing done end files old new =
    (before : ℤ) (later : Run)
    → before +ℤ pos 1 ≡ done.itno
    → Drives writing before (and_run done later) end files old new

-- an iteration that came to this turn is done, was written whole, and leaves what the next one starts from [own]
pub record IsWritten (writing : Writing) (came : Turn) (next : Start) (old new : Outside) : Type 0 where
  pub boards : Boards
  pub done : came ≡ Done next.world boards
  pub whole : StandsWhole (stage_acts writing (stage next.itno next.world boards)) old new
