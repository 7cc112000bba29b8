use Rattle.flame_top.proofs.ReportedLines.{lines_are_told}
use Rattle.flame_top.proofs.laws.lines_are_told.Goals as goal

pub returns : goal.returns
returns c = lines_are_told
