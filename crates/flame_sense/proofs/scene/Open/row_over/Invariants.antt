use Rattle.std.proofs.Common.{◌≡◌}
use Rattle.flame_meaning.specs.Scenes.{row_over}
use Rattle.flame_sense.specs.StandsFor.{currents}
use Rattle.flame_sense.proofs.scene.Open.row_over.Given as goal

abbrev pub invariant-loop-open_loops : goal.invariant-loop-open_loops
invariant-loop-open_loops l = row_over l.message (currents l.fn.self) ≡ row_over l.message (currents l.open_loops)
