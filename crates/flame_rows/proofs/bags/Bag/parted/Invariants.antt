use Rattle.std.proofs.Common.{◌≡◌, ◌++◌, length, List, Bool}
use Rattle.std.specs.Prelude.{ℤ, not}
use Rattle.std.specs.List.{filter}
use Rattle.std.specs.Vec.Iter.{into_iter_items, into_iter_len}
use Rattle.flame_rows.specs.Order.{row_order}
use Rattle.flame_rows.specs.Sorted.{IsAscending}
use Rattle.flame_rows.specs.Parted.{TestsBy}
use Rattle.flame_rows.proofs.bags.Bag.parted.Given as goal

abbrev pub invariant-loop-row : goal.invariant-loop-row
invariant-loop-row g l =
    let left = into_iter_items l.row-iterator in
    record {
      counted : into_iter_len l.row-iterator ≡ length left;
      passing_up : IsAscending row_order (l.passing ++ left);
      others_up : IsAscending row_order (l.others ++ left);
      passing : (passes : List ℤ → Bool) → TestsBy (goal.F-post g l.test) passes
          → filter passes l.fn.self ≡ l.passing ++ filter passes left;
      others : (passes : List ℤ → Bool) → TestsBy (goal.F-post g l.test) passes
          → filter (λ row. not (passes row)) l.fn.self ≡ l.others ++ filter (λ row. not (passes row)) left;
    }
