use Rattle.flame_orders.proofs.Finished.{ranks_stay_until_shut, ranks_stay_without_fault}
use Rattle.flame_orders.proofs.laws.ranks_stay.Goals as goal

pub returns-clause-until_shut : goal.returns-clause-until_shut
returns-clause-until_shut c = ranks_stay_until_shut

pub returns-clause-without_fault : goal.returns-clause-without_fault
returns-clause-without_fault c = ranks_stay_without_fault
