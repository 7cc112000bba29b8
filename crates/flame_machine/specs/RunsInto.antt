-- Runs that put the messages and births that they add behind those that some lists have.
use Rattle.std.specs.Prelude.{◌≡◌, List, [], ◌++◌}
use Rattle.flame_spec.specs.declared.outcomes.Outcome.{Outcome}
use Rattle.flame_spec.specs.declared.outcomes.Outcome.TheVariants as outcome
use Rattle.flame_spec.specs.declared.outcomes.Sent.{Sent}
use Rattle.flame_spec.specs.declared.outcomes.Born.{Born}
use Rattle.flame_machine.specs.declared.endings.Ending.{Ending}
use Rattle.flame_machine.specs.declared.endings.Ending.TheVariants as ending

-- how a run with this outcome ends: the memory and the fuel that are left, or the fault [FLAME User Manual]
abbrev pub ending_of : Outcome → Ending
ending_of (outcome.Ended effect) = ending.Ended effect.memory effect.fuel
ending_of (outcome.Faulted fault) = ending.Faulted fault

-- the messages that it added, and none where it faulted [FLAME User Manual]
abbrev pub messages_added : Outcome → List Sent
messages_added (outcome.Ended effect) = effect.sent
messages_added (outcome.Faulted fault) = []

-- the agents that it added, and none where it faulted [FLAME User Manual]
abbrev pub births_added : Outcome → List Born
births_added (outcome.Ended effect) = effect.born
births_added (outcome.Faulted fault) = []

-- a run with an outcome of which this holds ended so, and put what it added behind these messages and these births, which
-- were there before: so there are now those [own]
pub record RanInto
    (Holds : Outcome → Type 0) (end : Ending) (sent new_sent : List Sent) (born new_born : List Born) :
    Type 0 where
  pub outcome : Outcome
  pub holds : Holds outcome
  pub ends : end ≡ ending_of outcome
  pub messages : new_sent ≡ sent ++ messages_added outcome
  pub births : new_born ≡ born ++ births_added outcome

-- ---- the words that only bodies and proofs use

-- the outcome of a run that ended so and added these messages and births [own]
abbrev pub outcome_of_all : Ending → List Sent → List Born → Outcome
outcome_of_all (ending.Ended memory fuel) sent born =
    outcome.Ended (record { memory = memory; sent = sent; born = born; fuel = fuel })
outcome_of_all (ending.Faulted fault) sent born = outcome.Faulted fault
