use Rattle.std.proofs.Common.{◌≡◌, ◌++◌, List, Vec, length, map}
use Rattle.std.specs.Global.{Global}
use Rattle.flame_board.specs.declared.lanes.Lane.{Lane}
use Rattle.flame_lanes.specs.LaneColumns.{AreColumns}
use Rattle.flame_lanes.proofs.columns.columns_of.Given as goal

abbrev pub invariant-loop-row : goal.invariant-loop-row
invariant-loop-row l =
    (done : List (Vec Lane Global))
    × (l.fn.rows.items ≡ l.rows.items ++ done)
    × AreColumns (map (λ (row : Vec Lane Global). row.items) done) l.columns.items
    × (length l.columns.items ≡ l.width)

abbrev pub decreases-loop-row : goal.decreases-loop-row
decreases-loop-row l = length l.rows.items
