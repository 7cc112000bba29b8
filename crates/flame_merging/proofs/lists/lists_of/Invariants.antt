use Rattle.std.proofs.Common.{◌≡◌, ◌++◌, length}
use Rattle.std.specs.List.{flat_map}
use Rattle.std.specs.Vec.Iter.{into_iter_items, into_iter_len}
use Rattle.flame_merging.specs.RowLists.{rows_in}
use Rattle.flame_merging.proofs.lists.lists_of.Given as goal

abbrev pub invariant-loop-bag : goal.invariant-loop-bag
invariant-loop-bag l = record {
  counted : into_iter_len l.bag-iterator ≡ length (into_iter_items l.bag-iterator);
  rows : rows_in l.lists.items ++ flat_map (λ bag. bag) (into_iter_items l.bag-iterator)
      ≡ flat_map (λ bag. bag) l.fn.bags.items;
}
