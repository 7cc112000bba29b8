use Rattle.flame_expr.proofs.Uniqueness.{at_most_one}
use Rattle.flame_expr.proofs.laws.one_expression.Goals as goal

pub returns : goal.returns
returns c = at_most_one
