use Rattle.std.proofs.Common.{◌≡◌, []}
use Rattle.std.specs.Prelude.{replicate}
use Rattle.flame_rows.specs.RowVectors.{rows_of}
use Rattle.flame_popfile.proofs.agents.no_agents.Given as goal

abbrev pub invariant-loop-turn : goal.invariant-loop-turn
invariant-loop-turn l = rows_of l.dealt ≡ replicate l._turn []
