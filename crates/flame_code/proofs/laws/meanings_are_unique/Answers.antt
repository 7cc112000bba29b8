use Rattle.flame_code.proofs.Uniqueness.{one_meaning}
use Rattle.flame_code.proofs.laws.meanings_are_unique.Goals as goal

pub returns : goal.returns
returns c = one_meaning
