use Rattle.flame_body.proofs.CountedCalls.{definition-pass, definition-counted}
use Rattle.flame_body.proofs.laws.calls_fit.Goals as goal

pub returns-clause-passing : goal.returns-clause-passing
returns-clause-passing c = definition-pass

pub returns-clause-fitting : goal.returns-clause-fitting
returns-clause-fitting c = definition-counted
