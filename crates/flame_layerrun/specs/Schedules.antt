-- Functions by layer and rank.
use Rattle.std.specs.Prelude.{◌≡◌, ℕ, ◌<◌, ◌==◌, List, [], ◌∷◌, Vec, Some, length, map, slice_get, slice_index_or}
use Rattle.std.specs.Global.{Global}
use Rattle.std.specs.List.{filter}
use Rattle.flame_spec.specs.declared.models.Model.{Model}
use Rattle.flame_spec.specs.Before.{function_count}
use Rattle.flame_spec.specs.Lists.{each}
use Rattle.flame_spec.specs.ModelOrder.{model_order}
use Rattle.flame_layers.specs.LayerFunctions.{layer_of}
use Rattle.flame_layerrun.specs.declared.schedules.Ranked.{Ranked}

-- the functions of the model by rank [own]
abbrev pub ranked_functions : Model → List Ranked
ranked_functions model =
    each (λ rank function. record { rank = rank; function = function } ∷ []) (model_order model)

-- those of this layer [own]
abbrev pub ranked_in : Model → ℕ → List Ranked
ranked_in model layer = filter (λ ranked. layer_of model ranked.function == layer) (ranked_functions model)

-- those that are kept for this layer; for a further one none [own]
abbrev pub ranked_at : List (Vec Ranked Global) → ℕ → List Ranked
ranked_at layers layer = slice_index_or (map (λ own. own.items) layers) layer []

-- these are the functions of each layer, and no function is of a further one [own]
pub record AreLayersOf (model : Model) (layers : List (Vec Ranked Global)) : Type 0 where
  pub own :
      (layer : ℕ) (ranked : Vec Ranked Global) → slice_get layers layer ≡ Some ranked → ranked.items ≡ ranked_in model layer
  pub all : (function : ℕ) → function < function_count model → layer_of model function < length layers
