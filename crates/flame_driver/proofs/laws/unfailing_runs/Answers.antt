use Rattle.flame_driver.proofs.WholeEnds.{unfailing_runs_are_whole}
use Rattle.flame_driver.proofs.laws.unfailing_runs.Goals as goal

pub returns : goal.returns
returns c = unfailing_runs_are_whole
