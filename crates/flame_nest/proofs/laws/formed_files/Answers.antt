use Rattle.flame_nest.proofs.FormedModels.{model_formed}
use Rattle.flame_nest.proofs.laws.formed_files.Goals as goal

pub returns : goal.returns
returns c = record { formed = model_formed }
