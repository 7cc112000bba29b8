use Rattle.flame_orders.proofs.Newly.{newly_legal_is_allowed}
use Rattle.flame_orders.proofs.laws.newly_legal.Goals as goal

pub returns : goal.returns
returns c = newly_legal_is_allowed
