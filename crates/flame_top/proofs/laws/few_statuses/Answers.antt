use Rattle.flame_top.proofs.FewStatuses.{statuses_are_few}
use Rattle.flame_top.proofs.laws.few_statuses.Goals as goal

pub returns : goal.returns
returns c = statuses_are_few
