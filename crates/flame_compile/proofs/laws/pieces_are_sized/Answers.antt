use Rattle.flame_compile.proofs.Sized.{expression_sized}
use Rattle.flame_compile.proofs.SizedBlocks.{statements_sized}
use Rattle.flame_compile.proofs.laws.pieces_are_sized.Goals as goal

pub returns-clause-expressions : goal.returns-clause-expressions
returns-clause-expressions c = expression_sized

pub returns-clause-statements : goal.returns-clause-statements
returns-clause-statements c = statements_sized
