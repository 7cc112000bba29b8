use Rattle.flame_driver.proofs.Iterated.{runs_are_iterated}
use Rattle.flame_driver.proofs.laws.iterated_runs.Goals as goal

pub returns : goal.returns
returns c = runs_are_iterated
