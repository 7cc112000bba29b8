use Rattle.std.proofs.Common.{◌≡◌, length}
use Rattle.flame_lex.specs.DefineLines.{after_close}
use Rattle.flame_lex.proofs.scan.behind_close.Given as goal

abbrev pub invariant-loop-rest : goal.invariant-loop-rest
invariant-loop-rest l = after_close l.bytes ≡ after_close l.rest

abbrev pub decreases-loop-rest : goal.decreases-loop-rest
decreases-loop-rest l = length l.rest
