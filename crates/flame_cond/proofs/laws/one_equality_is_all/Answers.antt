use Rattle.flame_cond.proofs.EqualTruths.{one_equality_is_all, one_equality_is_first}
use Rattle.flame_cond.proofs.laws.one_equality_is_all.Goals as goal

pub returns-clause-first : goal.returns-clause-first
returns-clause-first c = one_equality_is_first

pub returns-clause-all : goal.returns-clause-all
returns-clause-all c = one_equality_is_all
