use Rattle.std.proofs.Common.{length}
use Rattle.flame_case_views.proofs.readable.+width_of.Given as goal

abbrev pub decreases-width_of : goal.decreases-width_of
decreases-width_of l = length l.variables.now
