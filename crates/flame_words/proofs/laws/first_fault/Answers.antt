use Rattle.flame_words.proofs.FirstFaults.{order_refuses, order_orders}
use Rattle.flame_words.proofs.laws.first_fault.Goals as goal

pub returns-clause-refuses : goal.returns-clause-refuses
returns-clause-refuses c = order_refuses

pub returns-clause-order : goal.returns-clause-order
returns-clause-order c = order_orders
