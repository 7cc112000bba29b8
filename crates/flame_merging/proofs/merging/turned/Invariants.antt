use Rattle.std.proofs.Common.{◌≡◌, ℕ, ◌+◌, List, length}
use Rattle.std.specs.Prelude.{ℤ}
use Rattle.std.specs.List.{flat_map}
use Rattle.flame_rows.specs.Bags.{weigh}
use Rattle.flame_merging.specs.RowLists.{rows_in}
use Rattle.flame_merging.proofs.merging.turned.Given as goal

abbrev pub invariant-loop-bag : goal.invariant-loop-bag
invariant-loop-bag l =
    (weight : List ℤ → ℕ)
    → weigh weight (rows_in l.lists.items) + weigh weight (flat_map (λ bag. bag) l.bags.items)
    ≡ weigh weight (flat_map (λ bag. bag) l.fn.bags.items)

abbrev pub decreases-loop-bag : goal.decreases-loop-bag
decreases-loop-bag l = length l.bags.items
