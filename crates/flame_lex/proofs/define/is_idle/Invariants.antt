use Rattle.std.proofs.Common.{◌≡◌, length}
use Rattle.flame_lex.specs.DefineLines.{is_idle}
use Rattle.flame_lex.proofs.define.is_idle.Given as goal

abbrev pub invariant-loop-rest : goal.invariant-loop-rest
invariant-loop-rest l = is_idle l.rest ≡ is_idle l.bytes

abbrev pub decreases-loop-rest : goal.decreases-loop-rest
decreases-loop-rest l = length l.rest
