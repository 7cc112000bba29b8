use Rattle.flame_meaning.proofs.Boards.{input_boards_count}
use Rattle.flame_meaning.proofs.TurnLaws.{helpers_see_no_caller}
use Rattle.flame_meaning.proofs.laws.what_is_seen.Goals as goal

pub returns-clause-helpers : goal.returns-clause-helpers
returns-clause-helpers c = helpers_see_no_caller

pub returns-clause-boards : goal.returns-clause-boards
returns-clause-boards c = input_boards_count
