use Rattle.std.proofs.Common.{◌≡◌, ◌-◌, ◌%◌, length}
use Rattle.flame_board.proofs.Turns.{AreDueBefore}
use Rattle.flame_board.proofs.pieces.dues_of.Given as goal

abbrev pub invariant-loop-place : goal.invariant-loop-place
invariant-loop-place l = record {
  turn : l.place % l.layer.lanes ≡ l.lane;
  dues : AreDueBefore l.layer l.message l.lane l.place l.dues.items;
}

abbrev pub decreases-loop-place : goal.decreases-loop-place
decreases-loop-place l = length l.keys - l.place
