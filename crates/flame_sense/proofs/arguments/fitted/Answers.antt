-- A further value of a row.
use Rattle.std.proofs.Common.{arith}
use Rattle.flame_sense.proofs.Rows.{fitted_next}
use Rattle.flame_sense.proofs.arguments.fitted.Goals as goal

pub loop-column-preserved : goal.loop-column-preserved
loop-column-preserved c = grind (arith, fitted_next)
