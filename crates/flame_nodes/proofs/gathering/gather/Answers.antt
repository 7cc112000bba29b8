use Rattle.std.proofs.Common.{map, subst, sym}
use Rattle.std.specs.List.{All}
use Rattle.flame_index.specs.FrozenBoards.{shared_messages}
use Rattle.flame_share.specs.PieceFits.{FitsPiece}
use Rattle.flame_nodes.proofs.gathering.gather.Goals as goal

pub share_all-requires : goal.share_all-requires
share_all-requires c =
    subst (All (FitsPiece c.args.program.now.model c.args.constants.now (map shared_messages c.args.boards.now))) (sym c.into_items-2.ensures)
    c.requires
