use Rattle.std.proofs.Common.{ℕ, ◌-◌, ◌^◌, ◌<◌, ◌≤◌, length}
use Rattle.flame_index.specs.Indexes.{values_of}
use Rattle.flame_index.proofs.Searching.{IsPassedBelow, IsLeftFrom, IsLeft}
use Rattle.flame_index.proofs.indexes.Index.bound.Given as goal

abbrev pub invariant-loop-low : goal.invariant-loop-low
invariant-loop-low g l = record {
  order : l.low ≤ l.high;
  within : l.high ≤ length l.self.entries;
  passed : IsPassedBelow (values_of l.self) l.through l.wanted l.low;
  stays : IsLeftFrom (values_of l.self) l.through l.wanted l.high;
  spare : (d : ℕ) → length l.self.entries < 2 ^ d → IsLeft d l.initial.steps l.steps l.low l.high;
}

abbrev pub decreases-loop-low : goal.decreases-loop-low
decreases-loop-low g l = l.high - l.low
