use Rattle.std.proofs.Common.{take, map}
use Rattle.flame_depend.specs.PlacedFunctions.{shown}
use Rattle.flame_depend.specs.Links.{AreEntering}
use Rattle.flame_depend.proofs.links.entering.Given as goal

abbrev pub invariant-loop-i : goal.invariant-loop-i
invariant-loop-i l = AreEntering l.types (take l.i (map shown l.places)) l.tables.items
