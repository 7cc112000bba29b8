use Rattle.std.proofs.Common.{[], ◌∷◌, ◌++◌, map, sym, ap, ◌∙◌}
use Rattle.std.proofs.lemmas.List.{map-append}
use Rattle.flame_index.specs.IndexBodies.{entry_of}
use Rattle.flame_index.proofs.Entered.{entries_from-take}
use Rattle.flame_index.proofs.entries.of_rows.Goals as goal

pub loop-place-preserved : goal.loop-place-preserved
loop-place-preserved c =
    ap (map entry_of) c.in_ok-push.ensures.items
    ∙ map-append entry_of c.loop-place.pairs.items (c.in_ok-of_row.field-0 ∷ [])
    ∙ (λ i. c.loop-place.invariant i ++ c.in_ok-of_row.ensures i ∷ [])
    ∙ sym (entries_from-take c.args.column c.loop-place.place c.args.rows.now c.index-rows-place.result c.loop-place-test.true c.index-rows-place.is)
