use Rattle.flame_index.proofs.Ordered.{index_orders_board}
use Rattle.flame_index.proofs.laws.orders_the_board.Goals as goal

pub returns : goal.returns
returns c = index_orders_board
