use Rattle.flame_words.proofs.Bounds.{orders_within}
use Rattle.flame_words.proofs.laws.limits.Goals as goal

pub returns : goal.returns
returns c = orders_within
