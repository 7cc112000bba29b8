use Rattle.flame_route.proofs.SoFar.{AreSoFar}
use Rattle.flame_route.proofs.routes.Routes.of.Given as goal

abbrev pub invariant-loop-i : goal.invariant-loop-i
invariant-loop-i l = AreSoFar l.model l.i l.routes.items l.leaving.items
