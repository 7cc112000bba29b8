use Rattle.std.proofs.Common.{◌≡◌, ◌++◌, take}
use Rattle.flame_depend.specs.Edges.{edges_to}
use Rattle.flame_depend.proofs.pairs.push_edges.Given as goal

abbrev pub invariant-loop-target : goal.invariant-loop-target
invariant-loop-target l = l.edges.items ≡ l.initial.edges.items ++ edges_to l.before (take l.target-index l.targets)
