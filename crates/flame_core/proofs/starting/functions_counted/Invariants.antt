use Rattle.std.proofs.Common.{false, take}
use Rattle.flame_spec.specs.Before.{function_count}
use Rattle.flame_pieces.specs.FreeThings.{Tells}
use Rattle.flame_core.proofs.Openings.{is_edge}
use Rattle.flame_core.proofs.starting.functions_counted.Given as goal

abbrev pub invariant-loop-edge : goal.invariant-loop-edge
invariant-loop-edge l =
    Tells (function_count l.program.model) (function_count l.program.model) (λ f g. is_edge (take l.edge-index l.edge-items) f g)
    (λ f. false) l.waits
