use Rattle.std.proofs.Common.{◌≡◌, not, sym, ap, ◌∙◌, subst, w32}
use Rattle.std.specs.Prelude.{int_le, int_lt}
use Rattle.std.specs.List.{filter}
use Rattle.std.proofs.lemmas.Int.{to_z-of_z}
use Rattle.flame_rows.specs.Sorted.{IsAscending}
use Rattle.flame_spec.specs.Conditions.{number_at}
use Rattle.flame_spec.specs.Views.{column_order}
use Rattle.flame_index.proofs.SortedParts.{IsAscending-filter}
use Rattle.flame_view.proofs.FirstColumns.{IsAscending-first, filter-between}
use Rattle.flame_view.proofs.ranges.with_first.Goals as goal

pub at_least-requires : goal.at_least-requires
at_least-requires c = IsAscending-first c.args.rows.now c.requires.numbers c.requires.order

pub at_most-requires : goal.at_most-requires
at_most-requires c =
    let rows = c.args.rows.now in
    let value = c.args.value in
    let least : c.at_least.result.now ≡ filter (λ row. not (int_lt (number_at row 0) value)) rows =
    c.at_least.ensures ∙ ap (λ v. filter (λ row. not (int_lt (number_at row 0) v)) rows) (to_z-of_z w32 value c.ranges.value) in
    subst (IsAscending (column_order 0)) (sym least)
    (IsAscending-filter (column_order 0) (λ row. not (int_lt (number_at row 0) value)) rows
    (IsAscending-first rows c.requires.numbers c.requires.order))

pub returns : goal.returns
returns c =
    let rows = c.args.rows.now in
    let value = c.args.value in
    let same = to_z-of_z w32 value c.ranges.value in
    c.at_most.ensures
    ∙ (λ i. filter (λ row. int_le (number_at row 0) (same i)) (c.at_least.ensures i))
    ∙ ap (λ v. filter (λ row. int_le (number_at row 0) value) (filter (λ row. not (int_lt (number_at row 0) v)) rows)) same
    ∙ filter-between 0 value rows
