use Rattle.std.proofs.Common.{◌≡◌, ◌++◌, map, drop}
use Rattle.flame_spec.specs.Functions.{functions_from}
use Rattle.flame_lookup.specs.WordsFound.{place_found}
use Rattle.flame_lookup.proofs.functions.places_of.Given as goal

abbrev pub invariant-loop-i : goal.invariant-loop-i
invariant-loop-i l =
    map place_found l.places.items ++ functions_from l.i (drop l.i l.agents) ≡ functions_from 0 l.agents
