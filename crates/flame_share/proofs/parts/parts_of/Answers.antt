use Rattle.std.proofs.Common.{ap, map, ◌∙◌}
use Rattle.flame_world.specs.Meaning.{part_for}
use Rattle.flame_share.proofs.PartedMessages.{parts-parted}
use Rattle.flame_share.proofs.parts.parts_of.Goals as goal

pub returns : goal.returns
returns c =
    c.in_ok-parts.ensures
    ∙ parts-parted c.args.piece.now c.args.sent.items c.in_ok-lists.lists.items c.outputs_of-outputs.result.now c.in_ok-lists.ensures
    ∙ ap (map (part_for c.args.piece.now c.args.sent.items)) c.outputs_of-outputs.ensures.outputs
