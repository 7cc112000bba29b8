-- What is kept tells what the model says.
use Rattle.std.specs.Prelude.{◌≡◌, ℕ, length}
use Rattle.flame_spec.specs.declared.models.Model.{Model}
use Rattle.flame_spec.specs.Before.{function_count}
use Rattle.flame_spec.specs.Below.{HasNoTwice}
use Rattle.flame_events.specs.CoreStates.{Core}
use Rattle.flame_events.specs.LegalEvents.{outputs_of}
use Rattle.flame_progress.specs.declared.counts.Counts.{Counts}
use Rattle.flame_progress.specs.declared.progress.Progress.{Progress}
use Rattle.flame_progress.specs.KeptCores.{core_of, HasOutputsAt}
use Rattle.flame_progress.specs.KeptCounts.{Counted}

-- there is a status for each function, whose pieces have its outputs, none of them twice, and a board for each message, and
-- what waits for what is counted [own]
pub record Tallies (model : Model) (progress : Progress) (counts : Counts) : Type 0 where
  pub functions : length progress.statuses.items ≡ function_count model
  pub messages : length progress.field.boards.items ≡ length model.messages
  pub outputs : (function : ℕ) → HasOutputsAt progress function (outputs_of model function)
  pub once : (function : ℕ) → HasNoTwice (outputs_of model function)
  pub counted : Counted model (core_of progress) counts

-- counts for so many functions and boards [own]
pub record Sizes (progress : Progress) (counts : Counts) : Type 0 where
  pub functions : counts.functions.count ≡ length progress.statuses.items
  pub inputs : counts.inputs.count ≡ length progress.statuses.items
  pub outputs : counts.outputs.count ≡ length progress.field.boards.items

-- this core came, and is told of [own]
pub record Came (model : Model) (next : Core) (progress : Progress) (counts : Counts) : Type 0 where
  pub core : core_of progress ≡ next
  pub tallies : Tallies model progress counts
