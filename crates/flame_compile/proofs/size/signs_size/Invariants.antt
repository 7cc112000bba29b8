use Rattle.std.proofs.Common.{◌≡◌, ◌+◌, length, drop}
use Rattle.flame_compile.specs.Emit.{signs_code}
use Rattle.flame_compile.proofs.size.signs_size.Given as goal

abbrev pub invariant-loop-sign : goal.invariant-loop-sign
invariant-loop-sign l = l.size + length (signs_code (drop l.sign-index l.signs)) ≡ length (signs_code l.signs)
