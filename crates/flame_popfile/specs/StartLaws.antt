-- What was read is a start of the model.
use Rattle.std.specs.Prelude.{◌≡◌, ℕ, ℤ, pos, ◌+ℤ◌, ◌≤ℤ◌, []}
use Rattle.serde_json.specs.Data.{Data}
use Rattle.flame_spec.specs.declared.models.Model.{Model}
use Rattle.flame_spec.specs.NameFaults.{name_faults}
use Rattle.flame_world.specs.WorldFits.{FitsModel}
use Rattle.flame_world.specs.WorldLaws.{IsWorldOf}
use Rattle.flame_popfile.specs.declared.starts.Start.{Start}
use Rattle.flame_popfile.specs.PopulationFaults.{population_faults}
use Rattle.flame_popfile.specs.PopulationStarts.{start_of}

-- an iteration may have this number, and so many may follow it: all numbers are from 0 to 2147483647 [own]
pub record LeavesRoom (turns : ℕ) (itno : ℤ) : Type 0 where
  pub first : pos 0 ≤ℤ itno
  pub last : (itno +ℤ pos turns) ≤ℤ pos 2147483647

-- a start of the model: a world of the model, which fits it, and a number that so many iterations may follow [own]
pub record IsStartOf (model : Model) (turns : ℕ) (start : Start) : Type 0 where
  pub world : IsWorldOf model start.world
  pub fits : FitsModel model start.world
  pub number : LeavesRoom turns start.itno

-- a population without faults, of a model whose names have none, holds a start of the model [own]
abbrev pub ReadPopulationsFit : Type 0
ReadPopulationsFit =
    (model : Model) (turns : ℕ) (value : Data)
    → name_faults model ≡ []
    → population_faults model turns value ≡ []
    → IsStartOf model turns (start_of model value)
