use Rattle.flame_index.proofs.Ordered.{index_has_numbers}
use Rattle.flame_index.proofs.laws.has_the_numbers.Goals as goal

pub returns : goal.returns
returns c = index_has_numbers
