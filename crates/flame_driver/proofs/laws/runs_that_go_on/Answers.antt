use Rattle.flame_driver.proofs.Iterated.{runs_go_on}
use Rattle.flame_driver.proofs.laws.runs_that_go_on.Goals as goal

pub returns : goal.returns
returns c = runs_go_on
