-- The bodies of a model and its function files, by number.
use Rattle.std.specs.Prelude.{◌≡◌, ℕ, List, length, slice_get, option_map}
use Rattle.flame_spec.specs.declared.models.Model.{Model}
use Rattle.flame_spec.specs.declared.trees.Unit as file
use Rattle.flame_spec.specs.Definitions.{helpers}
use Rattle.flame_spec.specs.Functions.{functions}
use Rattle.flame_body.specs.FunctionBodies.{function_body, helper_body, function_bodies, helper_bodies}

-- the n-th body is that of the n-th function, or of the n-th helper, and there are no more [own]
pub record BodiesByNumber : Type 0 where
  pub function_at : (model : Model) (units : List file.Unit) (n : ℕ) → slice_get (function_bodies model units) n
      ≡ option_map (function_body model units n) (slice_get (functions model) n)
  pub function_count : (model : Model) (units : List file.Unit) → length (function_bodies model units)
      ≡ length (functions model)
  pub helper_at : (model : Model) (units : List file.Unit) (n : ℕ) → slice_get (helper_bodies model units) n
      ≡ option_map (helper_body model units n) (slice_get (helpers model units) n)
  pub helper_count : (model : Model) (units : List file.Unit) → length (helper_bodies model units)
      ≡ length (helpers model units)
