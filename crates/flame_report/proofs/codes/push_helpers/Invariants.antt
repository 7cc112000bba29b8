use Rattle.std.proofs.Common.{◌≡◌, ◌++◌, drop, map, string_bytes}
use Rattle.flame_lookup.specs.WordsFound.{definition_found}
use Rattle.flame_spec.specs.Lists.{each, each_from}
use Rattle.flame_report.specs.CodeTexts.{helper_listing}
use Rattle.flame_report.proofs.codes.push_helpers.Given as goal

-- what was added, with the listings of the helpers that are left, is all listings
abbrev pub invariant-loop-i : goal.invariant-loop-i
invariant-loop-i l =
    string_bytes l.fn.text ++ each (helper_listing l.program) (map definition_found l.found)
    ≡ string_bytes l.text ++ each_from (helper_listing l.program) l.i (drop l.i (map definition_found l.found))
