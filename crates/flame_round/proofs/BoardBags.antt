-- The bags of boards are in order.
use Rattle.std.proofs.Common.{List, ◌∷◌, map, []}
use Rattle.flame_rows.proofs.BagLaws.{IsAscending-ascending}
use Rattle.flame_rows.specs.Sorted.{IsAscending}
use Rattle.flame_rows.specs.Order.{row_order}
use Rattle.flame_meaning.specs.RangeLaws.{Each}
use Rattle.flame_index.specs.FrozenBoards.{messages_on, shared_messages}
use Rattle.flame_field.specs.declared.boards.Board.{Board}
use Rattle.flame_field.specs.declared.boards.Board.TheVariants as board
use Rattle.flame_field.specs.KeptBoards.{board_bag}

pub board_bags-IsAscending : (boards : List Board) → Each (IsAscending row_order) (map board_bag boards)
board_bags-IsAscending [] = tt
board_bags-IsAscending (one ∷ boards) = (bag one, board_bags-IsAscending boards)
  where
    bag : (one : Board) → IsAscending row_order (board_bag one)
    bag (board.Gathering messages) = IsAscending-ascending messages.rows.items
    bag (board.Frozen frozen) = IsAscending-ascending (messages_on frozen)
    bag (board.Shared frozen) = IsAscending-ascending (shared_messages frozen)
