use Rattle.flame_top.proofs.TrialActs.{no_files}
use Rattle.flame_top.proofs.laws.trials_put_nothing.Goals as goal

pub returns : goal.returns
returns c = no_files
