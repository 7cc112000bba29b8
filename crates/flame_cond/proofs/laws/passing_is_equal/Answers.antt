use Rattle.flame_cond.proofs.EqualTruths.{passing_is_equal}
use Rattle.flame_cond.proofs.laws.passing_is_equal.Goals as goal

pub returns : goal.returns
returns c = passing_is_equal
