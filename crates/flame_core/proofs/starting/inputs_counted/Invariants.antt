use Rattle.std.proofs.Common.{◌≡◌, false, length}
use Rattle.std.specs.Prelude.{◌&&◌, nat_lt}
use Rattle.flame_spec.specs.Before.{function_count}
use Rattle.flame_spec.specs.Below.{is_in}
use Rattle.flame_events.specs.LegalEvents.{inputs_of}
use Rattle.flame_pieces.specs.FreeThings.{Tells}
use Rattle.flame_core.proofs.starting.inputs_counted.Given as goal

abbrev pub invariant-loop-route : goal.invariant-loop-route
invariant-loop-route l = record {
  number : l.function ≡ l.route-index;
  told : Tells (length l.program.model.messages) (function_count l.program.model)
      (λ m f. nat_lt f l.route-index && is_in m (inputs_of l.program.model f)) (λ m. false) l.waits;
}
