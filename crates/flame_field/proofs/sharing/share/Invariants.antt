use Rattle.std.proofs.Common.{◌≡◌, true, false, [], length, map, take, slice_index_or}
use Rattle.std.specs.List.{All}
use Rattle.flame_index.specs.FrozenBoards.{shared_messages}
use Rattle.flame_field.specs.KeptBoards.{board_bag, is_board_frozen}
use Rattle.flame_field.specs.KeptOrders.{KeepWanted}
use Rattle.flame_field.proofs.sharing.share.Given as goal

abbrev pub invariant-loop-message : goal.invariant-loop-message
invariant-loop-message l = record {
  count : length l.boards.items ≡ length l.fn.boards.items;
  bags : map board_bag l.boards.items ≡ map board_bag l.fn.boards.items;
  marks : All (λ message. slice_index_or (map is_board_frozen l.fn.boards.items) message false ≡ true) l.messages
      → map is_board_frozen l.boards.items ≡ map is_board_frozen l.fn.boards.items;
  keeps : KeepWanted l.wants l.fn.boards.items l.boards.items;
  read : map shared_messages l.shared.items
      ≡ map (λ message. slice_index_or (map board_bag l.fn.boards.items) message []) (take l.message-index l.messages);
}
