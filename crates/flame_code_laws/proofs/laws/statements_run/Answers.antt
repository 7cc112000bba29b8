-- The code of statements comes to what they come to.
use Rattle.flame_code_laws.proofs.FaithfulStatements.{statements-run}
use Rattle.flame_code_laws.proofs.laws.statements_run.Goals as goal

pub returns : goal.returns
returns c = statements-run
