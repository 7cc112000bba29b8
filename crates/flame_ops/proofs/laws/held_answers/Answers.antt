-- By cases of the operator.
use Rattle.flame_ops.proofs.Overflows.{answers, overflows, overflows_there}
use Rattle.flame_ops.proofs.laws.held_answers.Goals as goal

pub returns-clause-held : goal.returns-clause-held
returns-clause-held c = answers

pub returns-clause-division : goal.returns-clause-division
returns-clause-division c = λ op a b d a_in b_in. (overflows op a b d a_in b_in, overflows_there op a b d)
