use Rattle.std.proofs.Common.{◌≡◌, false, length}
use Rattle.std.specs.Prelude.{◌&&◌, nat_lt}
use Rattle.flame_spec.specs.Before.{function_count}
use Rattle.flame_spec.specs.Below.{is_in}
use Rattle.flame_events.specs.LegalEvents.{outputs_of}
use Rattle.flame_pieces.specs.FreeThings.{Tells}
use Rattle.flame_core.proofs.starting.outputs_counted.Given as goal

abbrev pub invariant-loop-route : goal.invariant-loop-route
invariant-loop-route l = record {
  number : l.function ≡ l.route-index;
  told : Tells (function_count l.program.model) (length l.program.model.messages)
      (λ f m. nat_lt f l.route-index && is_in m (outputs_of l.program.model f)) (λ f. false) l.waits;
}
