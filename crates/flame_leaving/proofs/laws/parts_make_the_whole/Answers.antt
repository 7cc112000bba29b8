use Rattle.flame_leaving.proofs.Totals.{agents_add_up, survivors_merge, messages_merge, births_merge}
use Rattle.flame_leaving.proofs.LeastFaults.{fault_is_the_least}
use Rattle.flame_leaving.proofs.Wholes.{leavings_add_up}
use Rattle.flame_leaving.proofs.laws.parts_make_the_whole.Goals as goal

pub returns-clause-count : goal.returns-clause-count
returns-clause-count c = agents_add_up

pub returns-clause-survivors : goal.returns-clause-survivors
returns-clause-survivors c = survivors_merge

pub returns-clause-messages : goal.returns-clause-messages
returns-clause-messages c = messages_merge

pub returns-clause-births : goal.returns-clause-births
returns-clause-births c = births_merge

pub returns-clause-fault : goal.returns-clause-fault
returns-clause-fault c = fault_is_the_least

pub returns-clause-all : goal.returns-clause-all
returns-clause-all c = leavings_add_up
