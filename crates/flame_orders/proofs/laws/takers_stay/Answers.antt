use Rattle.flame_orders.proofs.OpenedTakers.{opening_leaves_other_takers, openings_leave_other_takers}
use Rattle.flame_orders.proofs.laws.takers_stay.Goals as goal

pub returns-clause-one : goal.returns-clause-one
returns-clause-one c = opening_leaves_other_takers

pub returns-clause-many : goal.returns-clause-many
returns-clause-many c = openings_leave_other_takers
