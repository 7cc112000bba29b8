use Rattle.std.proofs.Common.{◌≡◌, ◌++◌, map, drop}
use Rattle.std.specs.List.{filter}
use Rattle.flame_lookup.specs.WordsFound.{definition_found}
use Rattle.flame_lookup.specs.WordTables.{helps_beside}
use Rattle.flame_lookup.proofs.functions.helpers_among.Given as goal

abbrev pub invariant-loop-function : goal.invariant-loop-function
invariant-loop-function l =
    map definition_found l.found.items
    ++ filter (helps_beside l.functions) (map definition_found (drop l.function-index l.all))
    ≡ filter (helps_beside l.functions) (map definition_found l.all)
