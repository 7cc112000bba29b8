use Rattle.std.specs.List.{AllZip, range_with_len}
use Rattle.flame_board.specs.SeenBoards.{IsLaneFor}
use Rattle.flame_board.specs.SeenLanes.{AreEndsOf}
use Rattle.flame_board.proofs.boards.lanes_of.Given as goal

abbrev pub invariant-loop-number : goal.invariant-loop-number
invariant-loop-number l = record {
  ends : AreEndsOf l.ends.items l.lanes.items;
  lanes : AllZip (IsLaneFor l.layer l.message) (range_with_len 0 l.number) l.lanes.items;
}
