use Rattle.flame_rows.proofs.Wholes.{merge-whose}
use Rattle.flame_rows.proofs.laws.parted_bags.Goals as goal

pub returns : goal.returns
returns c = merge-whose
