use Rattle.flame_meaning.proofs.Leavings.{fuel_never_rises}
use Rattle.flame_meaning.proofs.More.{more_fuel_leaves_more, more_fuel_faults_alike}
use Rattle.flame_meaning.proofs.TurnLaws.{turn_takes_one, call_takes_one, loop_goes_on}
use Rattle.flame_meaning.proofs.laws.fuel_of_outcomes.Goals as goal

pub returns-clause-falls : goal.returns-clause-falls
returns-clause-falls c = fuel_never_rises

pub returns-clause-turn : goal.returns-clause-turn
returns-clause-turn c = turn_takes_one

pub returns-clause-call : goal.returns-clause-call
returns-clause-call c = call_takes_one

pub returns-clause-again : goal.returns-clause-again
returns-clause-again c = loop_goes_on

pub returns-clause-more : goal.returns-clause-more
returns-clause-more c = more_fuel_leaves_more

pub returns-clause-fault : goal.returns-clause-fault
returns-clause-fault c = more_fuel_faults_alike
