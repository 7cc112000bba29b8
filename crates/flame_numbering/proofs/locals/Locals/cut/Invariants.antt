use Rattle.std.proofs.Common.{◌≡◌, drop}
use Rattle.flame_numbering.proofs.locals.Locals.cut.Given as goal

abbrev pub invariant-loop-i : goal.invariant-loop-i
invariant-loop-i l = l.self ≡ drop l.i l.fn.self
