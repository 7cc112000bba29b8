use Rattle.flame_rows.specs.Order.{row_order}
use Rattle.flame_rows.proofs.Sorting.{IsAscending-IsSorted, sorted_by-IsPermutation}
use Rattle.flame_rows.proofs.BagLaws.{rows_total, rows_tied}
use Rattle.flame_rows.proofs.bags.Bag.gathered.Goals as goal

pub invariant_of-result : goal.invariant_of-result
invariant_of-result c = IsAscending-IsSorted row_order rows_total _ c.sort_unstable.ensures.sorted

pub returns : goal.returns
returns c =
    sorted_by-IsPermutation row_order rows_total rows_tied c.args.rows.items _
    c.sort_unstable.ensures.permutation c.sort_unstable.ensures.sorted
