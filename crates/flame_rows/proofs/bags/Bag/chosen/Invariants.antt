use Rattle.std.proofs.Common.{◌≡◌, ◌++◌, length}
use Rattle.std.specs.Prelude.{◌==◌, not}
use Rattle.std.specs.Vec.Iter.{into_iter_items, into_iter_len}
use Rattle.std.specs.Iterator.Adapters.{zip_first, zip_second}
use Rattle.std.specs.Slice.Iter.{iter_rest}
use Rattle.flame_rows.specs.Order.{row_order}
use Rattle.flame_rows.specs.Sorted.{IsAscending}
use Rattle.flame_rows.specs.Parted.{whose}
use Rattle.flame_rows.proofs.bags.Bag.chosen.Given as goal

abbrev pub invariant-loop-row : goal.invariant-loop-row
invariant-loop-row l =
    let left = into_iter_items (zip_first l.row-iterator) in
    let choices = iter_rest (zip_second l.row-iterator) in
    record {
      counted : into_iter_len (zip_first l.row-iterator) ≡ length left;
      takers_up : IsAscending row_order (l.takers ++ left);
      others_up : IsAscending row_order (l.others ++ left);
      takers : whose (λ choice. choice == l.number) l.fn.self l.choices
          ≡ l.takers ++ whose (λ choice. choice == l.number) left choices;
      others : whose (λ choice. not (choice == l.number)) l.fn.self l.choices
          ≡ l.others ++ whose (λ choice. not (choice == l.number)) left choices;
    }
