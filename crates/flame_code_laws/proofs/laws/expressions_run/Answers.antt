-- The code of an expression gives its value.
use Rattle.flame_code_laws.proofs.FaithfulExpressions.{expressions-run}
use Rattle.flame_code_laws.proofs.laws.expressions_run.Goals as goal

pub returns : goal.returns
returns c = expressions-run
