-- Where a function of a model stands: the number of its type, and its number there.
use Rattle.std.proofs.Common.{◌≡◌, ℕ, [], Some}
use Rattle.std.specs.Prelude.{slice_get}
use Rattle.flame_spec.specs.declared.models.Model.{Model}
use Rattle.flame_spec.specs.Functions.{Place, functions}
use Rattle.flame_spec.proofs.FunctionPlaces.{functions_from-function}
use Rattle.flame_lookup.proofs.Places.{slice_get-type}

-- the number of a function's type, and its number there
pub record StandsIn (model : Model) (place : Place) : Type 0 where
  pub type : slice_get model.agents place.agent ≡ Some place.type
  pub number : ℕ
  pub function : slice_get place.type.functions number ≡ Some place.function

pub stands-in :
    (model : Model) (n : ℕ) (place : Place) → slice_get (functions model) n ≡ Some place → StandsIn model place
stands-in model n place at =
    let own = functions_from-function 0 model.agents n place at in
    record { type = slice_get-type model.agents n place at; number = own.0; function = own.1 }
