use Rattle.std.proofs.Common.{Some, rules, false}
use Rattle.std.specs.Ordering.{is_lt}
use Rattle.std.proofs.lemmas.List.Sorted.{ranks_by}
use Rattle.std.proofs.lemmas.Fn.{always_returns_same}
use Rattle.flame_rows.proofs.Sorting.{IsAscending-IsSorted, sorted_by-IsPermutation}
use Rattle.flame_spec.proofs.Viewed.{view_total, view_tied}
use Rattle.flame_spec.specs.Views.{Key}
use Rattle.flame_nodes.specs.Partings.{range_order}
use Rattle.flame_nodes.proofs.partings.sorted.Goals as goal

pub returns : goal.returns
returns c =
    let key : Key = record { column = c.args.column; descending = false } in
    let ranked =
    c.sort_unstable_by.ensures.sorted (λ a b. is_lt (range_order c.args.column a b)) (ranks_by (view_total (Some key)) (λ row. row))
    (always_returns_same _ _ _ (λ a r g h. search rules)) in
    sorted_by-IsPermutation (range_order c.args.column) (view_total (Some key)) (view_tied (Some key)) _ _ c.sort_unstable_by.ensures.permutation ranked
