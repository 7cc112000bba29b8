-- The states that a function leaves and enters are states of its type.
use Rattle.std.proofs.Common.{◌≡◌, ℕ, ◌<◌, length, Some}
use Rattle.std.specs.Prelude.{slice_get}
use Rattle.flame_spec.specs.declared.models.Model.{Model}
use Rattle.flame_spec.specs.Functions.{Place, functions}
use Rattle.flame_spec.specs.States.{states, state_place}
use Rattle.flame_spec.proofs.FunctionPlaces.{functions_from-function}
use Rattle.flame_world.proofs.NextStates.{current_state, next_state}

pub from_place : (model : Model) (f : ℕ) (place : Place)
    → slice_get (functions model) f ≡ Some place
    → state_place place.type place.function.current < length (states place.type.functions)
from_place model f place at =
    let found = functions_from-function 0 model.agents f place at in
    current_state place.type.functions found.0 place.function found.1

pub to_place : (model : Model) (f : ℕ) (place : Place)
    → slice_get (functions model) f ≡ Some place
    → state_place place.type place.function.next < length (states place.type.functions)
to_place model f place at =
    let found = functions_from-function 0 model.agents f place at in
    next_state place.type.functions found.0 place.function found.1
