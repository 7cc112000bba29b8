use Rattle.flame_orders.proofs.Lasting.{legality_lasts, legality_lasts_long}
use Rattle.flame_orders.proofs.laws.legality_lasts.Goals as goal

pub returns-clause-one : goal.returns-clause-one
returns-clause-one c = legality_lasts

pub returns-clause-many : goal.returns-clause-many
returns-clause-many c = legality_lasts_long
