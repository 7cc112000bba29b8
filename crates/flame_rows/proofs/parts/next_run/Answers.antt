use Rattle.std.proofs.Common.{subst}
use Rattle.std.specs.Vec.Iter.{into_iter_items}
use Rattle.flame_rows.specs.Order.{row_order}
use Rattle.flame_rows.specs.Sorted.{IsAscending}
use Rattle.flame_rows.proofs.Subsequences.{next_comes}
use Rattle.flame_rows.proofs.parts.next_run.Goals as goal

pub put-requires : goal.put-requires
put-requires c =
    next_comes row_order c.loop-row.run (into_iter_items c.loop-row.rest) _ c.in-Some.row
    (subst (IsAscending row_order) c.loop-row.invariant.0 c.requires) c.in-Some.ensures.items
