use Rattle.std.proofs.Common.{length}
use Rattle.flame_case_views.proofs.readable.+length_of.Given as goal

abbrev pub decreases-length_of : goal.decreases-length_of
decreases-length_of l = length l.units.now
