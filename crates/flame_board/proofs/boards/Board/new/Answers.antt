use Rattle.flame_board.proofs.EndLists.{ends-each}
use Rattle.flame_board.proofs.boards.Board.new.Goals as goal

pub returns-clause-each : goal.returns-clause-each
returns-clause-each c = rw c.of.ensures (ends-each _ _ c.in_ok-ends.ensures.ends)
