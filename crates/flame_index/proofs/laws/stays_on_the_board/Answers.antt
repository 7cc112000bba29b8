use Rattle.flame_index.proofs.Ordered.{index_stays_within, index_is_as_long}
use Rattle.flame_index.proofs.laws.stays_on_the_board.Goals as goal

pub returns-clause-long : goal.returns-clause-long
returns-clause-long c = index_is_as_long

pub returns-clause-within : goal.returns-clause-within
returns-clause-within c = index_stays_within
