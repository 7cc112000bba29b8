use Rattle.std.proofs.Common.{take}
use Rattle.flame_world.specs.WorldFits.{AreWide}
use Rattle.flame_case_nodes.proofs.fitting.are_wide.Given as goal

abbrev pub invariant-loop-row : goal.invariant-loop-row
invariant-loop-row l = AreWide l.wide (take l.row-index l.rows)
