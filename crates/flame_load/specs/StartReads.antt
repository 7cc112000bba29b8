-- The population that a run begins with.
use Rattle.std.specs.Prelude.{ℕ, List}
use Rattle.serde_json.specs.Data.{Data}
use Rattle.flame_outside.specs.Files.{Files}
use Rattle.flame_spec.specs.declared.models.Model.{Model}
use Rattle.flame_spec.specs.Lists.{first}
use Rattle.flame_popfile.specs.declared.faults.PopFault.{PopFault}
use Rattle.flame_popfile.specs.declared.starts.Start.{Start}
use Rattle.flame_popfile.specs.PopulationFaults.{population_faults}
use Rattle.flame_popfile.specs.PopulationStarts.{start_of}
use Rattle.flame_load.specs.declared.faults.FileFault.{FileFault}
use Rattle.flame_load.specs.FileReads.{value_in}
use Rattle.flame_load.specs.InputReads.{Reading, unless, input, ◌>>=◌}

-- a fault of the file, or one of the population [own]
pub data StartRefusal : Type 0 where
  of_file : FileFault → StartRefusal
  of_population : PopFault → StartRefusal

-- the most bytes of a population [own]
abbrev pub population_limit : ℕ
population_limit = 67108864

-- the start that the value holds for the model, or its first fault [FLAME User Manual]
abbrev pub start_in : Model → ℕ → Data → Reading StartRefusal Start
start_in model turns value = unless of_population (first (population_faults model turns value)) (start_of model value)

-- the start that the population file of that name holds for the model, from which so many iterations are to follow; or the
-- first refusal [FLAME User Manual]
abbrev pub starting : Files → Model → ℕ → List ℕ → Reading StartRefusal Start
starting told model turns name = do
  value ← input of_file name (value_in told population_limit name)
  start_in model turns value
