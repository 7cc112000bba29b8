use Rattle.flame_top.proofs.CarriedReports.{calls_carry_out}
use Rattle.flame_top.proofs.laws.carried_reports.Goals as goal

pub returns : goal.returns
returns c = calls_carry_out c.told_scripts.ensures.whole c.told_scripts.ensures.first c.scripts.ensures.whole
