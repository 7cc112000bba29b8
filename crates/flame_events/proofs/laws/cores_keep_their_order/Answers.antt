use Rattle.flame_events.proofs.KeptCores.{what_began_may_begin, frozen_boards_are_written}
use Rattle.flame_events.proofs.laws.cores_keep_their_order.Goals as goal

pub returns-clause-begun : goal.returns-clause-begun
returns-clause-begun c = what_began_may_begin

pub returns-clause-written : goal.returns-clause-written
returns-clause-written c = frozen_boards_are_written
