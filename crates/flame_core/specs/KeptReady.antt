-- What the body of a core keeps.
use Rattle.std.specs.Prelude.{◌≡◌, ℕ, ◌<◌, ◌≤◌, length, IsTrue, true, false}
use Rattle.std.specs.List.{list_all}
use Rattle.flame_spec.specs.declared.models.Model.{Model}
use Rattle.flame_spec.specs.Before.{function_count}
use Rattle.flame_spec.specs.Below.{is_in}
use Rattle.flame_spec.specs.Counted.{is_numbered}
use Rattle.flame_spec.specs.Functions.{functions}
use Rattle.flame_events.specs.CoreStates.{Core, is_shut, is_waiting, status_of, works_of, is_frozen}
use Rattle.flame_events.specs.CoreFits.{FitsCore}
use Rattle.flame_events.specs.LegalEvents.{inputs_of, outputs_of}
use Rattle.flame_progress.specs.declared.counts.Counts.{Counts}
use Rattle.flame_progress.specs.declared.progress.Progress.{Progress}
use Rattle.flame_progress.specs.KeptCores.{core_of}
use Rattle.flame_progress.specs.Tallying.{Tallies}
use Rattle.flame_field.specs.KeptPools.{AreDealt}
use Rattle.flame_round.specs.declared.rounds.Round as run
use Rattle.flame_round.specs.Choices.{choice_at}
use Rattle.flame_core.specs.declared.ranks.Ranks.{Ranks}
use Rattle.flame_core.specs.FunctionRanks.{AreRanksOf}
use Rattle.flame_core.specs.SeenCores.{Seen, IsReached}

-- a function that began has its boards frozen, and a frozen board its writers shut; functions have no more pieces than this
-- [own]
pub record InOrder (model : Model) (pieces : ℕ) (core : Core) : Type 0 where
  pub fed :
      (function : ℕ) → is_waiting (status_of core function) ≡ false → list_all (is_frozen core) (inputs_of model function) ≡ true
  pub written :
      (message function : ℕ)
      → function < function_count model
      → is_frozen core message ≡ true
      → is_in message (outputs_of model function) ≡ true
      → is_shut (status_of core function) ≡ true
  pub few : (function : ℕ) → length (works_of (status_of core function)) ≤ pieces

-- in each state each agent that chose is where its choice is [own]
abbrev pub AreDealtIn : run.Round → Progress → Type 0
AreDealtIn round progress =
    AreDealt (choice_at round.program.now.model round.iteration) progress.field.pools

-- an event may be looked for: everything fits the model and is counted, and each agent that chose is where its choice is
-- [own]
pub record Ready (round : run.Round) (pieces : ℕ) (progress : Progress) (counts : Counts) : Type 0 where
  pub known : length round.constants.now ≡ length round.program.now.model.constants
  pub some : 0 < pieces
  pub fits : FitsCore round.program.now.model (core_of progress)
  pub in_order : InOrder round.program.now.model pieces (core_of progress)
  pub dealt : AreDealtIn round progress
  pub tallies : Tallies round.program.now.model progress counts

-- what is kept is a core that was reached, of a model whose functions 32 bits can number; each agent that chose is where its
-- choice is, and it is known how far functions are by rank [own]
pub record IsKeptCore (seen : Seen) (progress : Progress) (counts : Counts) (ranks : Ranks) : Type 0 where
  pub reached : IsReached seen
  pub numbered : IsTrue (is_numbered (functions seen.source.model))
  pub tallies : Tallies seen.source.model progress counts
  pub dealt : AreDealt (choice_at seen.source.model seen.iteration) progress.field.pools
  pub ranked : AreRanksOf seen.source.model seen.core ranks
