use Rattle.std.proofs.Common.{sym, ◌∙◌}
use Rattle.flame_share.specs.NumberedPieces.{numbered_piece}
use Rattle.flame_share.proofs.Loops.{number-over}
use Rattle.flame_share.proofs.cuts.numbered.Goals as goal

pub returns : goal.returns
returns c =
    number-over (numbered_piece c.args.function) _ _ _ _ c.loop-agents.invariant.pieces
    (sym c.loop-agents.invariant.counted ∙ c.in-None.ensures.steps.0)
