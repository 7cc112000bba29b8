-- What functions and boards wait for.
use Rattle.std.specs.Prelude.{length}
use Rattle.flame_spec.specs.declared.models.Model.{Model}
use Rattle.flame_spec.specs.Before.{before, function_count}
use Rattle.flame_spec.specs.Below.{is_in}
use Rattle.flame_events.specs.CoreStates.{Core, is_shut, status_of, is_frozen}
use Rattle.flame_events.specs.LegalEvents.{inputs_of, outputs_of}
use Rattle.flame_pieces.specs.FreeThings.{Tells}
use Rattle.flame_progress.specs.declared.counts.Counts.{Counts}

-- functions wait for those before them to be shut, and for the boards of their inputs to be frozen; boards wait for their
-- writers to be shut [own]
pub record Counted (model : Model) (core : Core) (counts : Counts) : Type 0 where
  pub functions :
      Tells (function_count model) (function_count model) (before model) (λ function. is_shut (status_of core function))
      counts.functions
  pub inputs :
      Tells (length model.messages) (function_count model) (λ message function. is_in message (inputs_of model function))
      (is_frozen core) counts.inputs
  pub outputs :
      Tells (function_count model) (length model.messages) (λ function message. is_in message (outputs_of model function))
      (λ function. is_shut (status_of core function)) counts.outputs
