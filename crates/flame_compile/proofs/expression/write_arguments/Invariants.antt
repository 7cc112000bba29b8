use Rattle.std.proofs.Common.{◌≡◌, drop}
use Rattle.flame_compile.specs.Pieces.{written}
use Rattle.flame_compile.specs.Emit.{arguments}
use Rattle.flame_compile.proofs.expression.write_arguments.Given as goal

abbrev pub invariant-loop-e : goal.invariant-loop-e
invariant-loop-e l = written (arguments (drop l.e-index l.es)) l.out.items ≡ written (arguments l.es) l.fn.out.items
