use Rattle.std.proofs.Common.{vec_len}
use Rattle.flame_view.proofs.inputs.put_back.Given as goal

abbrev pub decreases-loop-cursor : goal.decreases-loop-cursor
decreases-loop-cursor l = vec_len l.cursors
