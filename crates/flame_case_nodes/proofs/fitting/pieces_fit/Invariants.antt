use Rattle.std.proofs.Common.{map, take}
use Rattle.std.specs.List.{All}
use Rattle.flame_index.specs.FrozenBoards.{shared_messages}
use Rattle.flame_share.specs.PieceFits.{FitsPiece}
use Rattle.flame_case_nodes.proofs.fitting.pieces_fit.Given as goal

abbrev pub invariant-loop-piece : goal.invariant-loop-piece
invariant-loop-piece l =
    All (FitsPiece l.program.model l.under.constants (map shared_messages l.under.boards)) (take l.piece-index l.pieces)
