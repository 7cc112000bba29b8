use Rattle.std.proofs.Common.{Some, sym, ap, ◌∙◌, subst}
use Rattle.flame_rows.specs.Order.{row_order}
use Rattle.flame_rows.specs.Sorted.{IsAscending, sorted_by}
use Rattle.flame_spec.specs.Views.{view_order}
use Rattle.flame_cond.specs.Said.{key_by}
use Rattle.flame_view.proofs.FirstColumns.{sorted_by-first}
use Rattle.flame_view.proofs.ways.ordered_rows.Goals as goal

pub returns-then-first_has_number : goal.returns-then-first_has_number
returns-then-first_has_number c =
    let rows = c.rows-rows.result.now in
    let key = key_by c.args.by in
    let up = subst (IsAscending row_order) (sym c.rows-rows.ensures.rows) c.rows-rows.ensures.order in
    c.all.ensures
    ∙ sym (sorted_by-first key (sym c.if-goes_by_first.ensures) rows (sym c.if-first_has_number.ensures) up)
    ∙ ap (sorted_by (view_order (Some key))) (c.rows-rows.ensures.rows ∙ c.bag.ensures)
