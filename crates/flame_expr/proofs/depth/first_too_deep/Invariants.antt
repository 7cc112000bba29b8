use Rattle.std.proofs.Common.{◌≤◌}
use Rattle.flame_expr.proofs.Depths.{DepthOn}
use Rattle.flame_expr.proofs.depth.first_too_deep.Given as goal

abbrev pub invariant-loop-at : goal.invariant-loop-at
invariant-loop-at l = (l.opened ≤ l.at) × (l.closed ≤ l.at) × DepthOn l.tokens l.at l.opened l.closed
