use Rattle.std.proofs.Common.{◌≤◌}
use Rattle.flame_flowrun.proofs.runners.count_agents.Given as goal

abbrev pub invariant-loop-bag : goal.invariant-loop-bag
invariant-loop-bag l = l.left ≤ l.most
