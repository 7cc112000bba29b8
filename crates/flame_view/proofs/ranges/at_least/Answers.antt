use Rattle.std.proofs.Common.{◌∙◌, rules, of_calls}
use Rattle.std.specs.Prelude.{int_lt}
use Rattle.std.proofs.lemmas.Fn.{always_returns_same}
use Rattle.flame_spec.specs.Conditions.{number_at}
use Rattle.flame_view.proofs.Filtered.{drop-filter}
use Rattle.flame_view.proofs.FirstColumns.{IsPartitionedBy-less}
use Rattle.flame_view.proofs.ranges.at_least.Goals as goal

pub returns : goal.returns
returns c =
    let rows = c.args.rows.now in
    let value = c.args.value in
    let found = c.partition_point-from in
    let turn =
    found.ensures.partitioned (λ row. int_lt (number_at row 0) value) (always_returns_same _ _ _ (λ a r f k. search (rules, of_calls)))
    (IsPartitionedBy-less 0 value rows c.requires) in
    c.split_at.ensures.back ∙ drop-filter (λ row. int_lt (number_at row 0) value) rows found.result found.ensures.bound turn
