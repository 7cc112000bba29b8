-- One C function for each function of the model, its body, and its parameters.
use Rattle.flame_spec_laws.proofs.CheckedBodies.{one-function, one-body, no-parameters}
use Rattle.flame_spec_laws.proofs.check_laws.checked_functions.Goals as goal

pub returns-clause-once : goal.returns-clause-once
returns-clause-once c = one-function

pub returns-clause-body : goal.returns-clause-body
returns-clause-body c = one-body

pub returns-clause-parameters : goal.returns-clause-parameters
returns-clause-parameters c = no-parameters
