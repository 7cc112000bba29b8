use Rattle.flame_lookup.specs.WordTables.{numbers_under}
use Rattle.flame_route.specs.TypeRoutes.{AreTaken}
use Rattle.flame_route.proofs.types.chosen_routes.Given as goal

abbrev pub invariant-loop-i : goal.invariant-loop-i
invariant-loop-i l = AreTaken l.messages l.at l.agent l.first l.i l.routes.items (numbers_under l.table)
