-- The source that files stand for, or their first refusal: the model files from the root on, the names of the flat model,
-- its function files in order, their check, and the order and the start states of functions.
use Rattle.std.specs.Prelude.{ℕ, List, Option, Some, None, option_map}
use Rattle.flame_outside.specs.Files.{Files}
use Rattle.flame_spec.specs.declared.models.Model.{Model}
use Rattle.flame_spec.specs.declared.outcomes.Source.{Source}
use Rattle.flame_spec.specs.CheckFaults.{check_faults}
use Rattle.flame_spec.specs.Lists.{first}
use Rattle.flame_spec.specs.ModelOrder.{left_over, model_cycle}
use Rattle.flame_spec.specs.States.{many_starts}
use Rattle.flame_depend.specs.declared.faults.DependFault.{DependFault}
use Rattle.flame_depend.specs.declared.faults.DependFault.TheVariants.{Cycle, Starts}
use Rattle.flame_load.specs.declared.faults.LoadFault.TheVariants.{Check, Depend}
use Rattle.flame_load.specs.InputReads.{Reading, unless, ◌>>=◌}
use Rattle.flame_load.specs.LoadRefusals.{Refusal, of_model}
use Rattle.flame_load.specs.TextReads.{Reader}
use Rattle.flame_load.specs.ModelFileReads.{model_in}
use Rattle.flame_load.specs.FunctionFileReads.{units_in}

-- ---- the order of functions

-- a type with two start states or more [own]
abbrev pub starts_fault : ℕ × List (List ℕ) → DependFault
starts_fault found = Starts (record { agent = found.0; states = found.1 })

-- the cycle, where a function is left over; else the first type with two start states or more, where there is one [own]
abbrev pub fault_of_order : Model → Option ℕ → Option DependFault
fault_of_order model (Some function) = Some (Cycle (record { functions = model_cycle model }))
fault_of_order model None = option_map starts_fault (many_starts model)

-- why the functions of the model have no order, or agents of a type no one place to start [FLAME User Manual]
abbrev pub depend_fault : Model → Option DependFault
depend_fault model = fault_of_order model (left_over model)

-- ---- the source

-- the source, whose function files have no fault [own]
abbrev pub checked_source : Source → Reading Refusal Source
checked_source source =
    unless
    (λ fault. of_model (Check fault) source.model)
    (first (check_faults source.model source.units))
    source

-- the source, whose functions have an order and whose types have one start state each [own]
abbrev pub planned_source : Source → Reading Refusal Source
planned_source source =
    unless (λ fault. of_model (Depend fault) source.model) (depend_fault source.model) source

-- the source, where neither its function files nor the order of its functions have a fault [own]
abbrev pub sound_source : Source → Reading Refusal Source
sound_source source = do
  checked ← checked_source source
  planned_source checked

-- the source of a model, whose function files are read [own]
abbrev pub source_of : Reader → Files → Model → Reading Refusal Source
source_of read told model = do
  units ← units_in read told model.files
  sound_source (record { model = model; units = units })

-- the inputs that are read for the model of that name, and the source that they stand for or their first refusal [own]
abbrev pub loading : Reader → Files → List ℕ → Reading Refusal Source
loading read told name = do
  model ← model_in told name
  source_of read told model
