use Rattle.flame_driver.proofs.FileNumbers.{names_differ}
use Rattle.flame_driver.proofs.laws.different_names.Goals as goal

pub returns : goal.returns
returns c = names_differ
