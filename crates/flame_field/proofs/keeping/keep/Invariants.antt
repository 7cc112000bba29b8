use Rattle.std.proofs.Common.{◌≡◌, length, drop}
use Rattle.flame_index.specs.FrozenBoards.{messages_on}
use Rattle.flame_field.specs.KeptOrders.{with_wants, KeepsWanted}
use Rattle.flame_field.proofs.keeping.keep.Given as goal

abbrev pub invariant-loop-want : goal.invariant-loop-want
invariant-loop-want l = record {
  messages : messages_on l.board ≡ messages_on l.fn.board;
  kept : with_wants (length (messages_on l.board)) (drop l.want-index l.wants) l.board.kept
      ≡ with_wants (length (messages_on l.fn.board)) l.wants l.fn.board.kept;
  keeps : KeepsWanted (length (messages_on l.fn.board)) l.wants l.fn.board.kept l.board.kept;
}
