use Rattle.std.proofs.Common.{◌≡◌, ◌++◌, ◌≤◌, ◌*◌, ◌<◌, length, reverse}
use Rattle.flame_rows.specs.Cuts.{cut, runs}
use Rattle.flame_lanes.proofs.tasks.cut_rows.Given as goal

abbrev pub invariant-loop-rest : goal.invariant-loop-rest
invariant-loop-rest l = record {
  whole : runs l.pieces l.size l.rest.items ++ reverse l.runs.items ≡ cut l.pieces l.fn.rows.items;
  some : 0 < length l.rest.items;
  few : length l.rest.items ≤ l.pieces * l.size;
}

abbrev pub decreases-loop-rest : goal.decreases-loop-rest
decreases-loop-rest l = length l.rest.items
