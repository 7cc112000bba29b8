-- How an order ends whose run ends so.
use Rattle.std.specs.Prelude.{◌≡◌, ◌⊎◌, ℕ, List}
use Rattle.flame_spec.specs.declared.models.Model.{Model}
use Rattle.flame_report.specs.FaultLines.{sim_line}
use Rattle.flame_driver.specs.declared.drivers.DriveEnd.{DriveEnd}
use Rattle.flame_driver.specs.declared.drivers.DriveEnd.TheVariants as drive
use Rattle.flame_driver.specs.RunScripts.{file_name}
use Rattle.flame_top.specs.declared.ending.Ending.{Ending}
use Rattle.flame_top.specs.declared.ending.Ending.TheVariants.{Done, Faulted, FileFault, OutputFault, NoMemory}

-- the ending for the end of a run of this model, whose files have names with this prefix [own]
abbrev pub run_ending : Model → List ℕ → DriveEnd → Ending
run_ending model prefix drive.Done = Done
run_ending model prefix (drive.Fault fault) = Faulted (sim_line model fault)
run_ending model prefix (drive.FileFault itno) = FileFault (file_name prefix itno)
run_ending model prefix drive.OutputFault = OutputFault
run_ending model prefix drive.NoMemory = NoMemory

-- the order ends so, or there was no memory for it [own]
abbrev pub EndsRun : Model → List ℕ → DriveEnd → Ending → Type 0
EndsRun model prefix end ending = (ending ≡ run_ending model prefix end) ⊎ (ending ≡ NoMemory)
