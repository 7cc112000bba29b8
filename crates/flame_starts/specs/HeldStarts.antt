-- The start that the bytes of a population hold, as serde_json reads them.
use Rattle.std.specs.Prelude.{◌≡◌, ℕ, List, [], Some}
use Rattle.serde_json.specs.Data.{Data}
use Rattle.flame_spec.specs.declared.models.Model.{Model}
use Rattle.flame_popfile.specs.declared.starts.Start.{Start}
use Rattle.flame_popfile.specs.PopulationFaults.{population_faults}
use Rattle.flame_popfile.specs.PopulationStarts.{start_of}
use Rattle.flame_popfile.specs.WrittenLaws.{value_in}

-- the bytes are a value for serde_json, a population of the model without faults, from which so many iterations are to
-- follow, and the value holds the start [own]
pub record HoldsStart (model : Model) (turns : ℕ) (bytes : List ℕ) (start : Start) : Type 0 where
  pub value : Data
  pub is_read : value_in bytes ≡ Some value
  pub faultless : population_faults model turns value ≡ []
  pub held : start ≡ start_of model value
