-- Each law is a lemma on layers.
use Rattle.flame_xmml.proofs.Layers.{condition_faults-open, condition_of-open}
use Rattle.flame_xmml.proofs.laws.conditions.Goals as goal

pub returns-clause-faults : goal.returns-clause-faults
returns-clause-faults c = condition_faults-open

pub returns-clause-conditions : goal.returns-clause-conditions
returns-clause-conditions c = condition_of-open
