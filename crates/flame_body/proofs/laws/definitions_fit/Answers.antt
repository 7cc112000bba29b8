use Rattle.flame_body.proofs.FittedStatements.{definition-fits}
use Rattle.flame_body.proofs.laws.definitions_fit.Goals as goal

pub returns : goal.returns
returns c = definition-fits
