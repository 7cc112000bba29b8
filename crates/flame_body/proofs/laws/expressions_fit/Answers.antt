use Rattle.flame_body.proofs.FittedExpressions.{expression-fits}
use Rattle.flame_body.proofs.laws.expressions_fit.Goals as goal

pub returns : goal.returns
returns c = expression-fits
