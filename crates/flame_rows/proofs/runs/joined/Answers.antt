use Rattle.std.proofs.Common.{◌∙◌, sym}
use Rattle.flame_rows.proofs.Merging.{all_joined}
use Rattle.flame_rows.proofs.runs.joined.Goals as goal

pub returns : goal.returns
returns c =
    all_joined _ _ _ c.loop-bag.invariant.joined (sym c.loop-bag.invariant.counted ∙ c.in-None.ensures.steps.0)
