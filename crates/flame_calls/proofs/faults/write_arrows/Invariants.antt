use Rattle.std.proofs.Common.{◌≡◌, ◌++◌, drop, map, string_bytes}
use Rattle.flame_spec.specs.HelperFaults.{arrows}
use Rattle.flame_lookup.specs.WordsFound.{definition_found}
use Rattle.flame_calls.proofs.faults.write_arrows.Given as goal

abbrev pub invariant-loop-number : goal.invariant-loop-number
invariant-loop-number l =
    string_bytes l.text ++ arrows (map definition_found l.helpers) (drop l.number-index l.numbers)
    ≡ string_bytes l.initial.text ++ arrows (map definition_found l.helpers) l.numbers
