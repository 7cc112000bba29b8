-- Which functions run in a layer.
use Rattle.std.specs.Prelude.{ℕ, ◌==◌, List, take, slice_index_or, Option, Some, None}
use Rattle.std.specs.List.{filter}
use Rattle.flame_spec.specs.declared.models.Model.{Model}
use Rattle.flame_spec.specs.Layers.{model_layers}
use Rattle.flame_spec.specs.ModelOrder.{model_order}
use Rattle.flame_layers.specs.declared.stops.Stop.{Stop}

-- the layer of the function of this number [own]
abbrev pub layer_of : Model → ℕ → ℕ
layer_of model function = slice_index_or (model_layers model) function 0

-- the functions that are still run, by rank: all, or where one faulted those of a lower rank [own]
abbrev pub still_run : Model → Option Stop → List ℕ
still_run model None = model_order model
still_run model (Some stop) = take stop.rank (model_order model)

-- those of this layer, by rank [own]
abbrev pub runs_in_layer : Model → ℕ → Option Stop → List ℕ
runs_in_layer model layer stop = filter (λ function. layer_of model function == layer) (still_run model stop)
