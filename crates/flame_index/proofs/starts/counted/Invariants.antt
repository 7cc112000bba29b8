use Rattle.std.proofs.Common.{◌≡◌, ◌≤◌, length, pos, ◌+ℤ◌}
use Rattle.flame_index.specs.IndexBodies.{AreStartsOf, IsLessBelow}
use Rattle.flame_index.proofs.starts.counted.Given as goal

abbrev pub invariant-loop-place : goal.invariant-loop-place
invariant-loop-place l = record {
  within : l.at ≤ length l.values;
  passed : IsLessBelow (l.least +ℤ pos l.place) l.values l.at;
  long : length l.counts.items ≡ l.place;
  starts : AreStartsOf l.least l.counts.items l.values;
}
