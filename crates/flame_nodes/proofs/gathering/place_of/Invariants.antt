use Rattle.std.proofs.Common.{ℕ, ◌<◌}
use Rattle.std.specs.Prelude.{slice_index_or}
use Rattle.flame_world.specs.declared.shares.Share.{Share}
use Rattle.flame_nodes.specs.NodeWork.{IsOf}
use Rattle.flame_nodes.proofs.gathering.place_of.Given as goal

abbrev pub invariant-loop-place : goal.invariant-loop-place
invariant-loop-place l = (k : ℕ) (d : Share) → k < l.place → IsOf l.terms l.piece (slice_index_or l.arrived k d) → ⊥
