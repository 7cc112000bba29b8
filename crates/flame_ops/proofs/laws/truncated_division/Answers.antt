-- The laws of division are std's.
use Rattle.std.proofs.lemmas.Int.{quot-rem}
use Rattle.flame_ops.proofs.laws.truncated_division.Goals as goal

pub returns-clause-makes_up : goal.returns-clause-makes_up
returns-clause-makes_up c = quot-rem
