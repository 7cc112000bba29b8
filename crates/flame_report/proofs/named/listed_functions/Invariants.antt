use Rattle.std.proofs.Common.{◌≡◌, ◌++◌, map, drop}
use Rattle.flame_spec.specs.Functions.{functions_from}
use Rattle.flame_lookup.specs.WordsFound.{place_found}
use Rattle.flame_report.proofs.named.listed_functions.Given as goal

-- what was listed, with the functions of the types that are left, is all functions
abbrev pub invariant-loop-i : goal.invariant-loop-i
invariant-loop-i l =
    map place_found l.places.items ++ functions_from l.i (drop l.i l.model.agents) ≡ functions_from 0 l.model.agents
