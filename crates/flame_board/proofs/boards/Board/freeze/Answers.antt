use Rattle.std.proofs.Common.{◌∙◌}
use Rattle.flame_board.proofs.boards.Board.freeze.Goals as goal

pub returns-clause-messages : goal.returns-clause-messages
returns-clause-messages g c = c.of.ensures.messages ∙ c.in_ok-bag.ensures ∙ c.in_ok-bags.ensures
