use Rattle.flame_index.proofs.Ordered.{index_names_each_once}
use Rattle.flame_index.proofs.laws.names_each_once.Goals as goal

pub returns : goal.returns
returns c = index_names_each_once
