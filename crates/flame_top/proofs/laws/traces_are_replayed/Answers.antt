use Rattle.flame_top.proofs.TracedIterations.{traces_are_replayed}
use Rattle.flame_top.proofs.laws.traces_are_replayed.Goals as goal

pub returns : goal.returns
returns c = traces_are_replayed
