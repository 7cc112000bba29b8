use Rattle.std.proofs.Common.{◌≡◌, ℕ, ◌+◌, List}
use Rattle.std.specs.Prelude.{ℤ}
use Rattle.flame_board.specs.LaneParts.{weigh_bags}
use Rattle.flame_board.specs.SeenLanes.{AreEndsOf, weigh_lanes}
use Rattle.flame_board.proofs.freezing.take_lanes.Given as goal

abbrev pub invariant-loop-end : goal.invariant-loop-end
invariant-loop-end g l = record {
  ends : AreEndsOf l.end-iterator.a.rest.items l.end-iterator.b.rest.items;
  rows : (weight : List ℤ → ℕ)
      → weigh_bags weight l.bags.items + weigh_lanes weight l.end-iterator.b.rest.items
      ≡ weigh_bags weight l.initial.bags.items + weigh_lanes weight l.fn.lanes.items;
}
