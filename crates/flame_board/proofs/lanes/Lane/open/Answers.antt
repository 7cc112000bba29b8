use Rattle.std.proofs.Common.{rules}
use Rattle.flame_board.proofs.Relays.{begins, forks}
use Rattle.flame_board.proofs.lanes.Lane.open.Goals as goal

pub bounded_with-requires-clause-rule : goal.bounded_with-requires-clause-rule
bounded_with-requires-clause-rule c = begins

pub another-boards-requires-clause-rule : goal.another-boards-requires-clause-rule
another-boards-requires-clause-rule c = forks _ _ (search rules) (search rules)
