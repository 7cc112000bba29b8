use Rattle.std.proofs.Common.{◌≡◌, ℕ, ◌+◌, List, length}
use Rattle.std.specs.Prelude.{ℤ}
use Rattle.std.specs.Vec.Iter.{into_iter_items, into_iter_len}
use Rattle.flame_rows.specs.Bags.{weigh}
use Rattle.flame_field.proofs.Dealing.{weighs}
use Rattle.flame_field.proofs.pools.Pool.join.Given as goal

abbrev pub invariant-loop-chosen : goal.invariant-loop-chosen
invariant-loop-chosen l = record {
  counted : into_iter_len l.chosen-iterator ≡ length (into_iter_items l.chosen-iterator);
  weighed : (w : List ℤ → ℕ) → weigh w l.all.rows.items + weighs w (into_iter_items l.chosen-iterator)
      ≡ weigh w l.fn.all.rows.items + (weigh w l.fn.self.fresh.rows.items + weighs w l.fn.self.chosen.items);
}
