-- What was written, and the boards that are left, make up the whole.
use Rattle.std.proofs.Common.{◌≡◌, ◌++◌, false}
use Rattle.std.specs.Iterator.Adapters.{zip_first, zip_second}
use Rattle.std.specs.Slice.Iter.{iter_rest}
use Rattle.flame_popfile.specs.RowTexts.{board_texts}
use Rattle.flame_popfile.specs.CommaTexts.{behind}
use Rattle.flame_popfile.proofs.boards.push_boards.Given as goal

abbrev pub invariant-loop-message : goal.invariant-loop-message
invariant-loop-message g l =
    l.bytes.items
    ++ behind l.more
    (board_texts (iter_rest (zip_first l.message-iterator)) (iter_rest (zip_second l.message-iterator)))
    ≡ l.fn.bytes.items ++ behind false (board_texts l.messages l.bags)
