use Rattle.std.proofs.Common.{◌≡◌, ◌++◌, [], ◌∷◌, map, drop}
use Rattle.flame_spec.specs.Lists.{each_from}
use Rattle.flame_lookup.specs.WordsFound.{place_found}
use Rattle.flame_body.specs.FunctionBodies.{function_body, function_bodies}
use Rattle.flame_check.proofs.numbering.numbered_functions.Given as goal

abbrev pub invariant-loop-i : goal.invariant-loop-i
invariant-loop-i l =
    l.bodies.items
    ++ each_from (λ number place. function_body l.tables.model l.tables.units number place ∷ []) l.i
    (map place_found (drop l.i l.places))
    ≡ function_bodies l.tables.model l.tables.units
