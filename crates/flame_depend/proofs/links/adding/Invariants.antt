use Rattle.std.proofs.Common.{take, map}
use Rattle.flame_depend.specs.PlacedFunctions.{shown}
use Rattle.flame_depend.specs.Links.{IsAdding}
use Rattle.flame_depend.proofs.links.adding.Given as goal

abbrev pub invariant-loop-i : goal.invariant-loop-i
invariant-loop-i l = IsAdding (take l.i (map shown l.places)) l.table
