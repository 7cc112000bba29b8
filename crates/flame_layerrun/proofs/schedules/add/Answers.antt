use Rattle.std.proofs.Common.{◌∙◌, ◌++◌, ◌==◌, ap, cond, List, [], ◌∷◌}
use Rattle.flame_layerrun.specs.declared.schedules.Ranked.{Ranked}
use Rattle.flame_layerrun.proofs.RankedFunctions.{kept-more}
use Rattle.flame_layerrun.proofs.schedules.add.Goals as goal

pub returns-clause-own : goal.returns-clause-own
returns-clause-own c other =
    kept-more c.make_room.new.layers.items c.args.layer c.index_mut.result.now c.push.new.self c.args.ranked
    c.in_ok-make_room.ensures.room c.index_mut.ensures.value c.in_ok-push.ensures.items other
    ∙ ap (λ (list : List Ranked). list ++ cond (c.args.layer == other) (c.args.ranked ∷ []) []) (c.in_ok-make_room.ensures.same other)
