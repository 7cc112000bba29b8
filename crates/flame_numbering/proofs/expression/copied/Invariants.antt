use Rattle.std.proofs.Common.{◌≡◌, take}
use Rattle.flame_numbering.proofs.expression.copied.Given as goal

abbrev pub invariant-loop-sign : goal.invariant-loop-sign
invariant-loop-sign l = l.copied.items ≡ take l.sign-index l.signs
