use Rattle.flame_words.proofs.Ends.{many_refused}
use Rattle.flame_words.proofs.laws.many_words.Goals as goal

pub returns : goal.returns
returns c = many_refused
