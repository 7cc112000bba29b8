use Rattle.flame_world.proofs.SameTurns.{agents_have_no_order, equal_agents_choose_alike, equal_agents_fare_alike}
use Rattle.flame_world.proofs.laws.what_counts.Goals as goal

pub returns-clause-order : goal.returns-clause-order
returns-clause-order c = agents_have_no_order

pub returns-clause-choices : goal.returns-clause-choices
returns-clause-choices c = equal_agents_choose_alike

pub returns-clause-outcomes : goal.returns-clause-outcomes
returns-clause-outcomes c = equal_agents_fare_alike
