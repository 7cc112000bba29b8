use Rattle.std.proofs.Common.{◌-◌, ◌≤◌, length}
use Rattle.flame_index.specs.IndexBodies.{IsLessBelow}
use Rattle.flame_index.proofs.starts.start.Given as goal

abbrev pub invariant-loop-at : goal.invariant-loop-at
invariant-loop-at l = record {
  within : l.at ≤ length l.values;
  passed : IsLessBelow l.wanted l.values l.at;
}

abbrev pub decreases-loop-at : goal.decreases-loop-at
decreases-loop-at l = length l.values - l.at
