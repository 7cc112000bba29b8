use Rattle.std.proofs.Common.{◌≡◌, ◌++◌, length, map}
use Rattle.std.specs.Vec.Iter.{into_iter_items, into_iter_len}
use Rattle.flame_field.specs.KeptBoards.{board_bag}
use Rattle.flame_round.proofs.closing.bags_of_boards.Given as goal

abbrev pub invariant-loop-board : goal.invariant-loop-board
invariant-loop-board l = record {
  counted : into_iter_len l.board-iterator ≡ length (into_iter_items l.board-iterator);
  all : map board_bag l.fn.boards.items ≡ l.bags.items ++ map board_bag (into_iter_items l.board-iterator);
}
