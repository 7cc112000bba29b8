use Rattle.std.proofs.Common.{◌≡◌, ℕ, ◌+◌, List, length}
use Rattle.std.specs.Prelude.{ℤ}
use Rattle.std.specs.Vec.Iter.{into_iter_items, into_iter_len}
use Rattle.flame_rows.specs.Bags.{weigh}
use Rattle.flame_merging.specs.RowLists.{rows_in}
use Rattle.flame_merging.proofs.cutting.cut_all.Given as goal

abbrev pub invariant-loop-list : goal.invariant-loop-list
invariant-loop-list l = record {
  counted : into_iter_len l.list-iterator ≡ length (into_iter_items l.list-iterator);
  heavy : (weight : List ℤ → ℕ)
      → weigh weight (rows_in l.fronts.items) + weigh weight (rows_in l.backs.items)
      + weigh weight (rows_in (into_iter_items l.list-iterator))
      ≡ weigh weight (rows_in l.fn.lists.items);
}
