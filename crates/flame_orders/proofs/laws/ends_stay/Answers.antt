use Rattle.flame_orders.proofs.Finished.{shut_functions_stay, faults_stay}
use Rattle.flame_orders.proofs.laws.ends_stay.Goals as goal

pub returns-clause-shut : goal.returns-clause-shut
returns-clause-shut c = shut_functions_stay

pub returns-clause-faults : goal.returns-clause-faults
returns-clause-faults c = faults_stay
