use Rattle.flame_nest.proofs.Agreement.{alike-is}
use Rattle.flame_nest.proofs.earlier.are_alike.Goals as goal

pub returns : goal.returns
returns c = alike-is c.same.result c.args.variables.now c.args.others.now c.same.ensures
