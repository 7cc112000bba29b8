-- The code of a body means its outcome.
use Rattle.flame_code_laws.proofs.Outcomes.{outcomes-run}
use Rattle.flame_code_laws.proofs.laws.outcomes_run.Goals as goal

pub returns : goal.returns
returns c = outcomes-run
