use Rattle.std.proofs.Common.{◌≡◌, ◌++◌}
use Rattle.flame_popfile.specs.PopulationParts.{zeros}
use Rattle.flame_popfile.proofs.members.add_zeros.Given as goal

abbrev pub invariant-loop-turn : goal.invariant-loop-turn
invariant-loop-turn l = l.row.items ≡ l.fn.row.items ++ zeros l._turn
