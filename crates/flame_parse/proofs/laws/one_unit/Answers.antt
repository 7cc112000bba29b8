use Rattle.flame_parse.proofs.OneTree.{at_most_one_unit}
use Rattle.flame_parse.proofs.laws.one_unit.Goals as goal

pub returns : goal.returns
returns c = at_most_one_unit
