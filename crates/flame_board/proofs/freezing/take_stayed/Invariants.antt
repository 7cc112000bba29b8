use Rattle.std.proofs.Common.{◌≡◌, ℕ, ◌+◌, List, length}
use Rattle.std.specs.Prelude.{ℤ}
use Rattle.std.specs.Vec.Iter.{into_iter_items, into_iter_len}
use Rattle.flame_board.specs.LaneParts.{weigh_bags, weigh_stayed}
use Rattle.flame_board.proofs.freezing.take_stayed.Given as goal

abbrev pub invariant-loop-one : goal.invariant-loop-one
invariant-loop-one l = record {
  counted : into_iter_len l.one-iterator ≡ length (into_iter_items l.one-iterator);
  rows : (weight : List ℤ → ℕ)
      → weigh_bags weight l.bags.items + weigh_stayed weight (into_iter_items l.one-iterator)
      ≡ weigh_bags weight l.initial.bags.items + weigh_stayed weight l.fn.stayed.items;
}
