-- Functions with their ranks.
use Rattle.std.proofs.Common.{◌≡◌, ℕ, suc, ◌+◌, ◌<◌, List, [], ◌∷◌, length, take, subst, arith}
use Rattle.std.specs.Prelude.{◌==◌, slice_index_or}
use Rattle.std.specs.List.{All}
use Rattle.std.proofs.lemmas.List.Elements.{All-nil, All-cons, All-take, All-filter, All-same}
use Rattle.flame_spec.specs.declared.models.Model.{Model}
use Rattle.flame_spec.specs.Before.{before, function_count}
use Rattle.flame_spec.specs.Lists.{each_from}
use Rattle.flame_spec.specs.ModelOrder.{model_order}
use Rattle.flame_spec_laws.specs.OrderLaws.{OrderListsFunctions, RankIsPlace}
use Rattle.flame_layers.specs.LayerFields.{rank_of}
use Rattle.flame_layers.specs.LayerFunctions.{layer_of}
use Rattle.flame_layerrun.specs.declared.schedules.Ranked.{Ranked}
use Rattle.flame_layerrun.specs.Schedules.{ranked_functions, ranked_in}

-- the function with its place
abbrev ranked_at : ℕ → ℕ → Ranked
ranked_at rank function = record { rank = rank; function = function }

each_ranked : (P : Ranked → Type 0) (i : ℕ) (functions : List ℕ)
    → ((k : ℕ) → k < length functions → P (ranked_at (i + k) (slice_index_or functions k 0)))
    → All P (each_from (λ rank function. ranked_at rank function ∷ []) i functions)
each_ranked P i [] each = All-nil P
each_ranked P i (f ∷ fs) each =
    All-cons P (ranked_at i f) _ (subst (λ n. P (ranked_at n f)) (omega arith) (each 0 (omega arith)))
    (each_ranked P (i + 1) fs
    (λ k within. subst (λ n. P (ranked_at n (slice_index_or fs k 0))) (omega arith) (each (suc k) (omega (arith, within)))))

-- what holds of all functions of the model holds of some of a layer
of_layer : (P : Ranked → Type 0) (model : Model) (layer count : ℕ) (own some : List Ranked)
    → own ≡ ranked_in model layer → some ≡ take count own
    → All P (ranked_functions model) → All P some
of_layer P model layer count own some are front all =
    All-same P some (take count own) front
    (All-take P count own (All-same P own (ranked_in model layer) are
    (All-filter (λ (ranked : Ranked). layer_of model ranked.function == layer) P (ranked_functions model) all)))

module _ (model : Model) where
  -- those of a layer are functions of the model, by their ranks
  pub all_known : OrderListsFunctions → (layer count : ℕ) (own some : List Ranked)
      → own ≡ ranked_in model layer → some ≡ take count own
      → All (λ (ranked : Ranked). ranked.function < function_count model) some
  all_known lists layer count own some are front =
      let P : Ranked → Type 0 = λ ranked. ranked.function < function_count model in
      of_layer P model layer count own some are front
      (each_ranked P 0 (model_order model) (λ k within. lists (function_count model) (before model) k within))

  pub all_ranked : RankIsPlace → (layer count : ℕ) (own some : List Ranked)
      → own ≡ ranked_in model layer → some ≡ take count own
      → All (λ (ranked : Ranked). ranked.rank ≡ rank_of model ranked.function) some
  all_ranked place layer count own some are front =
      let P : Ranked → Type 0 = λ ranked. ranked.rank ≡ rank_of model ranked.function in
      of_layer P model layer count own some are front
      (each_ranked P 0 (model_order model)
      (λ k within. omega (arith, place (function_count model) (before model) k within)))
