use Rattle.flame_cond.proofs.EqualTruths.{unread_memory_tells_nothing}
use Rattle.flame_cond.proofs.laws.unread_memory_tells_nothing.Goals as goal

pub returns : goal.returns
returns c = unread_memory_tells_nothing
