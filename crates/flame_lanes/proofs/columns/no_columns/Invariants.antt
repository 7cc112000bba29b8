use Rattle.std.proofs.Common.{◌≡◌, length}
use Rattle.flame_lanes.specs.LaneColumns.{AreNone}
use Rattle.flame_lanes.proofs.columns.no_columns.Given as goal

abbrev pub invariant-loop-column : goal.invariant-loop-column
invariant-loop-column l = record {
  none : AreNone l.columns.items;
  width : length l.columns.items ≡ l._column;
}
