use Rattle.std.proofs.Common.{◌≡◌, ◌++◌, length}
use Rattle.std.specs.Vec.Iter.{into_iter_items, into_iter_len}
use Rattle.flame_merging.specs.RowLists.{rows_in}
use Rattle.flame_merging.proofs.lists.joined.Given as goal

abbrev pub invariant-loop-list : goal.invariant-loop-list
invariant-loop-list l = record {
  counted : into_iter_len l.list-iterator ≡ length (into_iter_items l.list-iterator);
  joined : rows_in l.fn.lists.items ≡ l.rows.items ++ rows_in (into_iter_items l.list-iterator);
}
