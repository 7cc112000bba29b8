use Rattle.flame_driver.proofs.StageActs.{stages_are_written}
use Rattle.flame_driver.proofs.laws.written_stages.Goals as goal

pub returns : goal.returns
returns c = stages_are_written
