-- Every order of events comes to the iteration.
use Rattle.flame_trace.proofs.Written.{written-yes}
use Rattle.flame_trace.proofs.laws.written_is_yes.Goals as goal

pub returns : goal.returns
returns c = written-yes c.every_order.ensures
