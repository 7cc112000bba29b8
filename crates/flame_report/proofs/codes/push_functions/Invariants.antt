use Rattle.std.proofs.Common.{◌≡◌, ◌++◌, drop, map, string_bytes}
use Rattle.flame_spec.specs.Lists.{each, each_from}
use Rattle.flame_report.specs.CodeTexts.{function_listing}
use Rattle.flame_lookup.specs.WordsFound.{place_found}
use Rattle.flame_report.proofs.codes.push_functions.Given as goal

-- what was added, with the listings of the functions that are left, is all listings
abbrev pub invariant-loop-i : goal.invariant-loop-i
invariant-loop-i l =
    string_bytes l.fn.text ++ each (function_listing l.program) (map place_found l.places)
    ≡ string_bytes l.text ++ each_from (function_listing l.program) l.i (drop l.i (map place_found l.places))
