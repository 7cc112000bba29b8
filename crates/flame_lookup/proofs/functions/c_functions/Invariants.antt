use Rattle.std.proofs.Common.{◌≡◌, ◌++◌, map, drop}
use Rattle.flame_spec.specs.Definitions.{definitions, definitions_of}
use Rattle.flame_spec.specs.Lists.{each_from}
use Rattle.flame_lookup.specs.WordsFound.{definition_found}
use Rattle.flame_lookup.proofs.functions.c_functions.Given as goal

abbrev pub invariant-loop-i : goal.invariant-loop-i
invariant-loop-i l =
    map definition_found l.all.items ++ each_from definitions_of l.i (drop l.i l.units) ≡ definitions l.units
