-- Helpers call each other in no round, and not too deep.
use Rattle.flame_spec_laws.proofs.CallRounds.{calls_come_round, no_round, low, rises, chain_short}
use Rattle.flame_spec_laws.proofs.helper_laws.helpers_end.Goals as goal

pub returns-clause-cycle : goal.returns-clause-cycle
returns-clause-cycle c = calls_come_round

pub returns-clause-no_round : goal.returns-clause-no_round
returns-clause-no_round c = λ model units round none are is. no_round model units none round are is

pub returns-clause-heights : goal.returns-clause-heights
returns-clause-heights c = λ model units g none below.
    (low model units none g below, λ h h_below calls. rises model units none g h below h_below calls)

pub returns-clause-depth : goal.returns-clause-depth
returns-clause-depth c = λ model units chain none are is. chain_short model units none chain are is
