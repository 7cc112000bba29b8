use Rattle.std.proofs.Common.{◌≡◌, map, take, length}
use Rattle.flame_lookup.specs.WordsFound.{definition_found}
use Rattle.flame_program.proofs.compiling.parameters_of.Given as goal

abbrev pub invariant-loop-helper : goal.invariant-loop-helper
invariant-loop-helper l =
    l.parameters.items ≡ map (λ d. length d.parameters) (map definition_found (take l.helper-index l.helpers))
