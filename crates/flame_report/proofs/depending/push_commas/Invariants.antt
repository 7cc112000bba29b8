use Rattle.std.proofs.Common.{◌≡◌, ◌++◌, take, codes, string_bytes}
use Rattle.std.specs.List.{flat_map}
use Rattle.flame_report.proofs.depending.push_commas.Given as goal

abbrev pub invariant-loop-state : goal.invariant-loop-state
invariant-loop-state l =
    string_bytes l.text
    ≡ string_bytes l.fn.text ++ flat_map (λ state. codes ", " ++ state) (take l.state-index l.states)
