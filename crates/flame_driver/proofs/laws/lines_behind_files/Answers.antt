use Rattle.flame_driver.proofs.LineFronts.{lines_follow_files}
use Rattle.flame_driver.proofs.laws.lines_behind_files.Goals as goal

pub returns : goal.returns
returns c = lines_follow_files
