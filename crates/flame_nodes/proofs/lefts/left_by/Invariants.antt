use Rattle.std.proofs.Common.{◌≡◌, ℕ, List}
use Rattle.std.specs.Prelude.{ℤ}
use Rattle.std.specs.List.{All}
use Rattle.flame_spec.specs.Below.{HasNoTwice}
use Rattle.flame_spec.specs.declared.outcomes.Outcome.{Outcome}
use Rattle.flame_nodes.specs.NodeLeavings.{IsOfRun}
use Rattle.flame_nodes.proofs.LeftShares.{ArePutTogether}
use Rattle.flame_nodes.proofs.lefts.left_by.Given as goal

abbrev pub invariant-loop-share : goal.invariant-loop-share
invariant-loop-share l =
    (iteration : ℤ) (function : ℕ) (run : List ℤ → Outcome) (outputs : List ℕ) (once : HasNoTwice outputs)
    → All (IsOfRun iteration function run outputs) l.fn.shares.items
    → ArePutTogether iteration function run outputs once l.fn.shares.items l.share-iterator.rest.items l.left
