use Rattle.std.proofs.Common.{◌≡◌, ◌++◌, map, drop}
use Rattle.flame_spec.specs.Definitions.{definition}
use Rattle.flame_lookup.specs.WordsFound.{definition_found}
use Rattle.flame_lookup.proofs.functions.add_file.Given as goal

abbrev pub invariant-loop-def : goal.invariant-loop-def
invariant-loop-def l =
    map definition_found l.all.items ++ map (definition l.file) (drop l.def-index l.unit.functions)
    ≡ map definition_found l.fn.all.items ++ map (definition l.file) l.unit.functions
