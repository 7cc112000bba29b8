use Rattle.std.proofs.Common.{map}
use Rattle.flame_flow.proofs.Places.{HasNext}
use Rattle.flame_flow.proofs.ways.next_of.Given as goal

abbrev pub invariant-loop-edge : goal.invariant-loop-edge
invariant-loop-edge l = HasNext l.count l.edges l.edge-index (map (λ list. list.items) l.next.items)
