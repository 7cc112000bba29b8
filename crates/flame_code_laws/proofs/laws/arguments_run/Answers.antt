-- The code of arguments gives their numbers.
use Rattle.flame_code_laws.proofs.FaithfulExpressions.{arguments-run}
use Rattle.flame_code_laws.proofs.laws.arguments_run.Goals as goal

pub returns : goal.returns
returns c = arguments-run
