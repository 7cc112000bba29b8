use Rattle.std.proofs.Common.{◌≡◌, ◌+◌, drop}
use Rattle.flame_compile.specs.Emit.{arguments}
use Rattle.flame_compile.proofs.size.arguments_size.Given as goal

abbrev pub invariant-loop-e : goal.invariant-loop-e
invariant-loop-e l = l.size + (arguments (drop l.e-index l.es)).size ≡ (arguments l.es).size
