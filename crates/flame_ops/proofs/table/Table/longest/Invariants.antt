-- The best so far is the longest of those that were seen.
use Rattle.std.proofs.Common.{◌≡◌, ℕ, ◌<◌, ◌≤◌, length}
use Rattle.std.specs.Prelude.{MatchOption}
use Rattle.flame_ops.specs.Spellings.{spelling, Stands}
use Rattle.flame_ops.proofs.table.Table.longest.Given as goal

abbrev pub invariant-loop-number : goal.invariant-loop-number
invariant-loop-number g l = record {
  best_stands :
      MatchOption l.best (l.most ≡ 0) (λ number.
      Stands l.spelling-items l.rest number
      × (length (spelling l.spelling-items number) ≡ l.most));
  none_longer :
      (other : ℕ)
      → other < l.number
      → Stands l.spelling-items l.rest other
      → length (spelling l.spelling-items other) ≤ l.most;
}
