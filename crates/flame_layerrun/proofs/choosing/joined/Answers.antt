use Rattle.std.proofs.Common.{◌∙◌, sym}
use Rattle.flame_rows.proofs.Lists.{append-flat_none}
use Rattle.flame_layerrun.proofs.choosing.joined.Goals as goal

pub returns : goal.returns
returns c =
    sym (c.loop-run.invariant.joined
    ∙ append-flat_none c.loop-run.choices.items _ (sym c.loop-run.invariant.counted ∙ c.in-None.ensures.steps.0))
