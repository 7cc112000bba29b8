use Rattle.std.proofs.Common.{◌≡◌, ℕ, ◌+◌, true, List}
use Rattle.std.specs.Prelude.{ℤ}
use Rattle.crossbeam_channel.specs.Claims.{view, IsSeatAt}
use Rattle.crossbeam_channel.specs.Ends.{receives_on}
use Rattle.flame_board.specs.LaneParts.{weigh_bags, weigh_parts}
use Rattle.flame_board.proofs.freezing.take_sent.Given as goal

abbrev pub invariant-loop : goal.invariant-loop
invariant-loop g l = record {
  seat : IsSeatAt (receives_on l.receiver) l.pass;
  sends : (view l.pass).sends ≡ true;
  takes : (view l.pass).takes ≡ true;
  sent : (view l.pass).sent ≡ (view l.fn.pass).sent;
  rows : (weight : List ℤ → ℕ)
      → weigh_bags weight l.bags.items ≡ weigh_bags weight l.initial.bags.items + weigh_parts weight (view l.pass).taken;
}
