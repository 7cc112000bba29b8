use Rattle.std.proofs.Common.{◌∙◌, sym}
use Rattle.flame_merging.proofs.RowWeights.{rows-over}
use Rattle.flame_merging.proofs.lists.joined.Goals as goal

pub returns : goal.returns
returns c =
    sym (c.loop-list.invariant.joined
    ∙ rows-over c.loop-list.rows.items _ (sym c.loop-list.invariant.counted ∙ c.in-None.ensures.steps.0))
