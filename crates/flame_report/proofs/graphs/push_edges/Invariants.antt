use Rattle.std.proofs.Common.{◌≡◌, ◌++◌, map, take, string_bytes}
use Rattle.std.specs.List.{flat_map}
use Rattle.flame_report.specs.GraphTexts.{edge_line}
use Rattle.flame_lookup.specs.WordsFound.{place_found}
use Rattle.flame_report.proofs.graphs.push_edges.Given as goal

abbrev pub invariant-loop-edge : goal.invariant-loop-edge
invariant-loop-edge l =
    string_bytes l.text
    ≡ string_bytes l.fn.text ++ flat_map (edge_line (map place_found l.places)) (take l.edge-index l.edges)
