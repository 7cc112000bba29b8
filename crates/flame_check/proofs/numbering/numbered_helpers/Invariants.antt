use Rattle.std.proofs.Common.{◌≡◌, ◌++◌, [], ◌∷◌, map, drop}
use Rattle.flame_spec.specs.Lists.{each_from}
use Rattle.flame_lookup.specs.WordsFound.{definition_found}
use Rattle.flame_body.specs.FunctionBodies.{helper_body, helper_bodies}
use Rattle.flame_check.proofs.numbering.numbered_helpers.Given as goal

abbrev pub invariant-loop-i : goal.invariant-loop-i
invariant-loop-i l =
    l.bodies.items
    ++ each_from (λ number d. helper_body l.tables.model l.tables.units number d ∷ []) l.i
    (map definition_found (drop l.i l.all))
    ≡ helper_bodies l.tables.model l.tables.units
