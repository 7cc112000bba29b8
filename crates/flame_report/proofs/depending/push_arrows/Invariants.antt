use Rattle.std.proofs.Common.{◌≡◌, ◌++◌, map, take, codes, string_bytes}
use Rattle.std.specs.List.{flat_map}
use Rattle.flame_report.specs.LineParts.{name_among}
use Rattle.flame_lookup.specs.WordsFound.{place_found}
use Rattle.flame_report.proofs.depending.push_arrows.Given as goal

abbrev pub invariant-loop-number : goal.invariant-loop-number
invariant-loop-number l =
    string_bytes l.text
    ≡ string_bytes l.fn.text
    ++ flat_map (λ number. codes " -> " ++ name_among (map place_found l.places) number) (take l.number-index l.numbers)
