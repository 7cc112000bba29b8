use Rattle.flame_driver.proofs.Restarted.{runs_restart}
use Rattle.flame_driver.proofs.laws.restarted_runs.Goals as goal

pub returns : goal.returns
returns c = runs_restart c.worlds_stay_worlds.ensures c.written_reads_back.ensures
