use Rattle.std.proofs.Common.{◌-◌, length}
use Rattle.flame_expr.proofs.Readings.{SignsOn}
use Rattle.flame_expr.proofs.reader.signs.Given as goal

abbrev pub invariant-loop-kind : goal.invariant-loop-kind
invariant-loop-kind l = SignsOn l.tokens l.fn.at l.place l.found.items

abbrev pub decreases-loop-kind : goal.decreases-loop-kind
decreases-loop-kind l = length l.tokens - l.place
