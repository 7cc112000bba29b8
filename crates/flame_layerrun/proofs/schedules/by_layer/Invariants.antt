use Rattle.std.proofs.Common.{◌≡◌, ◌==◌, ℕ, ◌<◌, ◌++◌, drop, length}
use Rattle.std.specs.Prelude.{slice_index}
use Rattle.std.specs.List.{filter}
use Rattle.flame_spec.specs.Lists.{each_from}
use Rattle.flame_layers.specs.LayerFunctions.{layer_of}
use Rattle.flame_layerrun.specs.declared.schedules.Ranked.{Ranked}
use Rattle.flame_layerrun.specs.Schedules.{ranked_at, ranked_in}
use Rattle.flame_layerrun.proofs.RankedFunctions.{as_ranked}
use Rattle.flame_layerrun.proofs.schedules.by_layer.Given as goal

abbrev pub invariant-loop-rank : goal.invariant-loop-rank
invariant-loop-rank l = record {
  own : (layer : ℕ)
      → ranked_at l.layers.items layer
      ++ filter (λ (ranked : Ranked). layer_of l.program.model ranked.function == layer)
      (each_from as_ranked l.rank (drop l.rank l.function-items))
      ≡ ranked_in l.program.model layer;
  room : (place : ℕ) → place < l.rank → layer_of l.program.model (slice_index l.function-items place) < length l.layers.items;
}
