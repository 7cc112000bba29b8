use Rattle.std.proofs.Common.{◌≡◌, ℕ, ◌<◌, ◌++◌, length}
use Rattle.std.specs.Prelude.{◌==◌, nat_le}
use Rattle.std.specs.Vec.Iter.{into_iter_items, into_iter_len}
use Rattle.std.specs.Iterator.Adapters.{zip_first, zip_second}
use Rattle.std.specs.Slice.Iter.{iter_rest}
use Rattle.flame_rows.specs.Order.{row_order}
use Rattle.flame_rows.specs.Sorted.{IsAscending}
use Rattle.flame_rows.specs.Parted.{whose}
use Rattle.flame_rows.proofs.Parting.{part_at}
use Rattle.flame_rows.proofs.bags.Bag.parted_by.Given as goal

abbrev pub invariant-loop-row : goal.invariant-loop-row
invariant-loop-row l =
    let left = into_iter_items (zip_first l.row-iterator) in
    let choices = iter_rest (zip_second l.row-iterator) in
    record {
      counted : into_iter_len (zip_first l.row-iterator) ≡ length left;
      many : length l.parts.items ≡ l.count;
      parts_up : (number : ℕ) → number < l.count → IsAscending row_order (part_at l.parts.items number ++ left);
      others_up : IsAscending row_order (l.others ++ left);
      parts : (number : ℕ) → number < l.count
          → whose (λ choice. choice == number) l.fn.self l.choices
          ≡ part_at l.parts.items number ++ whose (λ choice. choice == number) left choices;
      others : whose (λ choice. nat_le l.count choice) l.fn.self l.choices
          ≡ l.others ++ whose (λ choice. nat_le l.count choice) left choices;
    }
