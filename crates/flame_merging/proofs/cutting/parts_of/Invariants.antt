use Rattle.std.proofs.Common.{◌≡◌, ℕ, ◌+◌, List}
use Rattle.std.specs.Prelude.{ℤ}
use Rattle.flame_rows.specs.Bags.{weigh}
use Rattle.flame_merging.specs.RowLists.{rows_in, weigh_parts}
use Rattle.flame_merging.proofs.cutting.parts_of.Given as goal

abbrev pub invariant-loop-bound : goal.invariant-loop-bound
invariant-loop-bound l =
    (weight : List ℤ → ℕ)
    → weigh_parts weight l.parts.items + weigh weight (rows_in l.rest.items) ≡ weigh weight (rows_in l.fn.lists.items)
