use Rattle.std.proofs.Common.{length}
use Rattle.flame_lex.proofs.Cuts.{IsReadUpTo}
use Rattle.flame_lex.proofs.lexer.lex.Given as goal

abbrev pub invariant-loop-rest : goal.invariant-loop-rest
invariant-loop-rest l = IsReadUpTo l.bytes l.rest l.tokens.items l.place l.defines

abbrev pub decreases-loop-rest : goal.decreases-loop-rest
decreases-loop-rest l = length l.rest
