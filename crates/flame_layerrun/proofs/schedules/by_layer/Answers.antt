use Rattle.std.proofs.Common.{◌≡◌, ◌∙◌, ◌==◌, ◌++◌, ◌<◌, ◌≤◌, ap, arith, length, subst, sym, append-nil}
use Rattle.std.specs.Prelude.{slice_index, slice_index_or}
use Rattle.std.specs.List.{filter, range_with_len}
use Rattle.std.proofs.lemmas.List.{drop_all, length-map}
use Rattle.std.proofs.lemmas.List.FromFn.{length-range_with_len}
use Rattle.flame_spec.specs.Before.{before, function_count}
use Rattle.flame_spec.specs.Layers.{layer}
use Rattle.flame_spec.specs.Lists.{each_from}
use Rattle.flame_spec.specs.ModelOrder.{model_order, rank}
use Rattle.flame_layers.specs.LayerFunctions.{layer_of}
use Rattle.flame_layerrun.specs.declared.schedules.Ranked.{Ranked}
use Rattle.flame_layerrun.specs.Schedules.{ranked_at}
use Rattle.flame_layerrun.proofs.RankedFunctions.{as_ranked, kept-there}
use Rattle.flame_layerrun.proofs.schedules.by_layer.Goals as goal

pub bounds-items-function : goal.bounds-items-function
bounds-items-function c =
    let model = c.args.program.now.model in
    let place = c.loop-rank.rank in
    let order : c.items-function-items.result.now ≡ model_order model = c.items-function-items.ensures ∙ c.plan-plan.ensures.order in
    let count : length c.items.result.now ≡ function_count model =
    ap length (c.items.ensures ∙ c.plan-plan.ensures.layers)
    ∙ length-map (range_with_len 0 (function_count model)) (layer (function_count model) (before model))
    ∙ length-range_with_len 0 (function_count model) in
    subst (λ n. slice_index_or c.items-function-items.result.now place 0 < n) (sym count)
    (subst (λ list. slice_index_or list place 0 < function_count model) (sym order)
    (c.orders.ensures.functions (function_count model) (before model) place
    (subst (λ list. place < length list) order c.loop-rank-test.true)))

pub returns : goal.returns
returns c =
    let model = c.args.program.now.model in
    let items = c.items-function-items.result.now in
    let order : items ≡ model_order model = c.items-function-items.ensures ∙ c.plan-plan.ensures.order in
    let n = function_count model in
    let over : length items ≤ c.loop-rank.rank = c.loop-rank-test.false in
    let layers = c.loop-rank.layers.items in
    record {
      own = λ layer ranked at.
          sym (kept-there layers layer ranked at)
          ∙ sym (append-nil (ranked_at layers layer))
          ∙ ap (λ list. ranked_at layers layer ++ filter (λ (ranked : Ranked). layer_of model ranked.function == layer) (each_from as_ranked c.loop-rank.rank list))
          (sym (drop_all c.loop-rank.rank items over))
          ∙ c.loop-rank.invariant.own layer;
      all = λ function within.
          let there = c.ranks.ensures.at_rank n (before model) function ((c.orders.ensures.whole n (before model)).0 c.plan-plan.ensures.acyclic function within) in
          let place = rank n (before model) function in
          subst (λ f. layer_of model f < length layers)
          (ap (λ list. slice_index list place) order ∙ there.1)
          (c.loop-rank.invariant.room place (omega (arith, over, ap length order, there.0)));
    }
