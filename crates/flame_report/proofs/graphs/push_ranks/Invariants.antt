use Rattle.std.proofs.Common.{◌≡◌, ◌++◌, drop, map, string_bytes}
use Rattle.flame_spec.specs.Lists.{each, each_from}
use Rattle.flame_report.specs.GraphTexts.{rank_line}
use Rattle.flame_lookup.specs.WordsFound.{place_found}
use Rattle.flame_report.proofs.graphs.push_ranks.Given as goal

-- what was added, with the lines of the functions that are left, is all lines
abbrev pub invariant-loop-rank : goal.invariant-loop-rank
invariant-loop-rank l =
    string_bytes l.fn.text ++ each (rank_line (map place_found l.places) l.layers) l.fn.order
    ≡ string_bytes l.text ++ each_from (rank_line (map place_found l.places) l.layers) l.rank (drop l.rank l.order)
