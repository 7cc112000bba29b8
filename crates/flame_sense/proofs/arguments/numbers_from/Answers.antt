-- A further number of a row.
use Rattle.std.proofs.Common.{arith}
use Rattle.flame_sense.proofs.Rows.{numbers_next}
use Rattle.flame_sense.proofs.arguments.numbers_from.Goals as goal

pub loop-place-preserved : goal.loop-place-preserved
loop-place-preserved c = grind (arith, numbers_next)
