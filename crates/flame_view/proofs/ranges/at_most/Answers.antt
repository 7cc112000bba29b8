use Rattle.std.proofs.Common.{◌∙◌, rules, of_calls}
use Rattle.std.specs.Prelude.{int_le}
use Rattle.std.proofs.lemmas.Fn.{always_returns_same}
use Rattle.flame_spec.specs.Conditions.{number_at}
use Rattle.flame_view.proofs.Filtered.{take-filter}
use Rattle.flame_view.proofs.FirstColumns.{IsPartitionedBy-at_most}
use Rattle.flame_view.proofs.ranges.at_most.Goals as goal

pub returns : goal.returns
returns c =
    let rows = c.args.rows.now in
    let value = c.args.value in
    let found = c.partition_point-to in
    let turn =
    found.ensures.partitioned (λ row. int_le (number_at row 0) value) (always_returns_same _ _ _ (λ a r f k. search (rules, of_calls)))
    (IsPartitionedBy-at_most 0 value rows c.requires) in
    c.split_at.ensures.front ∙ take-filter (λ row. int_le (number_at row 0) value) rows found.result found.ensures.bound turn
