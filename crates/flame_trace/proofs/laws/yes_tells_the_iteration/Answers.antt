-- Every order of events comes to the iteration.
use Rattle.flame_trace.proofs.Telling.{yes-tells}
use Rattle.flame_trace.proofs.laws.yes_tells_the_iteration.Goals as goal

pub returns : goal.returns
returns c = yes-tells c.every_order.ensures
