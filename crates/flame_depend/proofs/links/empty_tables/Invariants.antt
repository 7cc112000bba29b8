use Rattle.std.proofs.Common.{[]}
use Rattle.flame_depend.specs.Links.{AreEntering}
use Rattle.flame_depend.proofs.links.empty_tables.Given as goal

abbrev pub invariant-loop-turn : goal.invariant-loop-turn
invariant-loop-turn l = AreEntering l._turn [] l.tables.items
