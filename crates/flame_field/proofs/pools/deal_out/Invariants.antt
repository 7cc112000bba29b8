use Rattle.std.proofs.Common.{◌≡◌, ℕ, ◌<◌, ◌+◌, List, length, map}
use Rattle.std.specs.Prelude.{ℤ}
use Rattle.std.specs.List.{All}
use Rattle.std.specs.Vec.Iter.{into_iter_items, into_iter_len}
use Rattle.std.specs.Iterator.Adapters.{zip_first, zip_second}
use Rattle.std.specs.Slice.Iter.{iter_rest}
use Rattle.flame_rows.specs.Bags.{weigh}
use Rattle.flame_field.specs.KeptGatherings.{bags_of}
use Rattle.flame_field.specs.KeptPools.{AreApart}
use Rattle.flame_field.proofs.Dealing.{weighs, Apart, RoomsIn}
use Rattle.flame_field.proofs.pools.deal_out.Given as goal

abbrev pub invariant-loop-row : goal.invariant-loop-row
invariant-loop-row l =
    let left = into_iter_items (zip_first l.row-iterator) in
    let choices = iter_rest (zip_second l.row-iterator) in
    record {
      counted : into_iter_len (zip_first l.row-iterator) ≡ length left;
      long : length choices ≡ length left;
      count : length l.chosen.items ≡ length l.fn.chosen.items;
      within : All (λ choice. choice < length l.fn.chosen.items) choices;
      rooms : RoomsIn choices l.chosen.items;
      weighed : (w : List ℤ → ℕ) → weighs w l.chosen.items + weigh w left ≡ weighs w l.fn.chosen.items + weigh w l.fn.rows.items;
      apart : (choose : List ℤ → ℕ) → l.choices ≡ map choose l.fn.rows.items → AreApart choose (bags_of l.fn.chosen)
          → (choices ≡ map choose left) × Apart choose l.chosen.items;
    }
