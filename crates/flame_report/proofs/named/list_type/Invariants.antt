use Rattle.std.proofs.Common.{◌≡◌, ◌++◌, map, drop}
use Rattle.flame_spec.specs.Functions.{at_type}
use Rattle.flame_lookup.specs.WordsFound.{place_found}
use Rattle.flame_report.proofs.named.list_type.Given as goal

-- what was added, with the functions that are left, is all functions of the type
abbrev pub invariant-loop-function : goal.invariant-loop-function
invariant-loop-function l =
    map place_found l.places.items ++ map (at_type l.number l.agent) (drop l.function-index l.agent.functions)
    ≡ map place_found l.fn.places.items ++ map (at_type l.number l.agent) l.agent.functions
