use Rattle.flame_events.proofs.EveryOrders.{every_order_is_the_iteration}
use Rattle.flame_events.proofs.laws.every_order.Goals as goal

pub returns : goal.returns
returns c = every_order_is_the_iteration c.names_differ.ensures.messages
