-- The definitions compute.
use Rattle.std.proofs.Common.{refl}
use Rattle.flame_spec_laws.proofs.order_laws.order_cases.Goals as goal

pub returns-clause-order : goal.returns-clause-order
returns-clause-order c = (refl, refl)

pub returns-clause-cycles : goal.returns-clause-cycles
returns-clause-cycles c = (refl, refl, refl, refl, refl, refl, refl)

pub returns-clause-starts : goal.returns-clause-starts
returns-clause-starts c = (refl, refl)
