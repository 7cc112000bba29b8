use Rattle.std.proofs.Common.{◌≡◌, ◌++◌, map, drop}
use Rattle.flame_spec.specs.Functions.{functions_from}
use Rattle.flame_depend.specs.PlacedFunctions.{shown}
use Rattle.flame_depend.proofs.place.place_all.Given as goal

abbrev pub invariant-loop-agent : goal.invariant-loop-agent
invariant-loop-agent l = functions_from 0 l.model.agents ≡ map shown l.places.items ++ functions_from l.agent (drop l.agent l.model.agents)
