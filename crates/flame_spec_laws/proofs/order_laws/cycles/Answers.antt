-- The walk back comes round; along a round layers would rise for ever.
use Rattle.flame_spec_laws.proofs.Rounds.{left_has_cycle}
use Rattle.flame_spec_laws.proofs.RisingRounds.{round_leaves_over}
use Rattle.flame_spec_laws.proofs.order_laws.cycles.Goals as goal

pub returns-clause-has_cycle : goal.returns-clause-has_cycle
returns-clause-has_cycle c = left_has_cycle

pub returns-clause-leaves_over : goal.returns-clause-leaves_over
returns-clause-leaves_over c = round_leaves_over
