use Rattle.flame_top.proofs.RunLines.{lines_of_runs}
use Rattle.flame_top.proofs.laws.lines_of_runs.Goals as goal

pub returns : goal.returns
returns c =
    lines_of_runs c.lines_behind_files.ensures c.told_scripts.ensures.whole c.scripts.ensures.whole c.written_stages.ensures
