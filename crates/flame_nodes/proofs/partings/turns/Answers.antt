use Rattle.std.proofs.Common.{◌%◌, ◌∙◌, ◌∷◌, [], ◌++◌, ap, arith, sym}
use Rattle.std.proofs.lemmas.List.FromFn.{map-range_with_len_more}
use Rattle.flame_nodes.proofs.partings.turns.Goals as goal

pub loop-place-preserved : goal.loop-place-preserved
loop-place-preserved c =
    c.in_ok-push.ensures.items
    ∙ ap (λ list. list ++ (c.loop-place.place % c.args.nodes) ∷ []) c.loop-place.invariant
    ∙ sym (map-range_with_len_more (λ place. place % c.args.nodes) 0 c.loop-place.place c.loop-place.place (omega arith))
