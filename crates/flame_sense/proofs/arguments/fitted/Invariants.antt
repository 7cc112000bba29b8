use Rattle.std.proofs.Common.{◌≡◌}
use Rattle.flame_meaning.specs.Statements.{fitted}
use Rattle.flame_sense.proofs.arguments.fitted.Given as goal

abbrev pub invariant-loop-column : goal.invariant-loop-column
invariant-loop-column l = l.row.items ≡ fitted l.column l.values
