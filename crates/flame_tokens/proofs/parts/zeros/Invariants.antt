use Rattle.std.proofs.Common.{◌≡◌}
use Rattle.std.specs.Prelude.{pos, replicate}
use Rattle.flame_tokens.proofs.parts.zeros.Given as goal

abbrev pub invariant-loop-turn : goal.invariant-loop-turn
invariant-loop-turn l = l.row.items ≡ replicate l._turn (pos 0)
