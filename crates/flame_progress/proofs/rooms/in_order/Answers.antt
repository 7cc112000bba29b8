use Rattle.std.proofs.Common.{◌∙◌, subst, sym}
use Rattle.flame_rows.specs.Order.{row_order}
use Rattle.flame_rows.specs.Sorted.{IsAscending}
use Rattle.flame_field.proofs.Gathered.{ascending-permuted}
use Rattle.flame_progress.proofs.rooms.in_order.Goals as goal

pub returns-clause-rows : goal.returns-clause-rows
returns-clause-rows c = c.into_rows.ensures.rows ∙ c.gathered.ensures ∙ ascending-permuted _ _ c.sort-sorted.ensures.permutation

pub returns-clause-order : goal.returns-clause-order
returns-clause-order c = subst (IsAscending row_order) (sym c.into_rows.ensures.rows) c.into_rows.ensures.order
