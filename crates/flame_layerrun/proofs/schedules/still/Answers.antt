use Rattle.std.proofs.Common.{◌≡◌, ◌∙◌, ◌==◌, ◌-◌, ap, arith, map, nat_lt, sym, take}
use Rattle.std.specs.List.{filter, take_while}
use Rattle.flame_spec.specs.ModelOrder.{model_order}
use Rattle.flame_layers.specs.LayerFunctions.{layer_of, runs_in_layer}
use Rattle.flame_layerrun.specs.declared.schedules.Ranked.{Ranked}
use Rattle.flame_layerrun.proofs.RankedFunctions.{numbers-chosen, numbers-lower, take-while}
use Rattle.flame_layerrun.proofs.schedules.still.Goals as goal

pub returns-in-None-clause-functions : goal.returns-in-None-clause-functions
returns-in-None-clause-functions c model layer is =
    ap (map (λ (ranked : Ranked). ranked.function)) is
    ∙ numbers-chosen (λ function. layer_of model function == layer) 0 (model_order model)
    ∙ ap (runs_in_layer model layer) (sym c.in-None.is)

pub returns-in-Some-clause-functions : goal.returns-in-Some-clause-functions
returns-in-Some-clause-functions c model layer is =
    let rank = c.in-Some.stop.rank in
    let same : rank - 0 ≡ rank = omega arith in
    ap (λ n. map (λ (ranked : Ranked). ranked.function) (take n c.args.ranked.now)) c.count_lower.ensures.lower
    ∙ ap (map (λ (ranked : Ranked). ranked.function)) (take-while (λ (ranked : Ranked). nat_lt ranked.rank rank) c.args.ranked.now)
    ∙ ap (λ list. map (λ (ranked : Ranked). ranked.function) (take_while (λ (ranked : Ranked). nat_lt ranked.rank rank) list)) is
    ∙ numbers-lower (λ function. layer_of model function == layer) rank 0 (model_order model)
    ∙ ap (λ n. filter (λ function. layer_of model function == layer) (take n (model_order model))) same
    ∙ ap (runs_in_layer model layer) (sym c.in-Some.is)
