-- What functions send. [own]
use Rattle.std.specs.Prelude.{◌≡◌, ℕ, ℤ, List, [], ◌∷◌, Some, slice_get, IsTrue}
use Rattle.flame_spec.specs.declared.models.MessageType.{MessageType}
use Rattle.flame_spec.specs.declared.outcomes.Source.{Source}
use Rattle.flame_spec.specs.declared.outcomes.Sent.{Sent}
use Rattle.flame_spec.specs.declared.outcomes.Outcome.{Outcome}
use Rattle.flame_spec.specs.declared.outcomes.Outcome.TheVariants.{Ended, Faulted}
use Rattle.flame_spec.specs.CheckFaults.{check_faults}
use Rattle.flame_spec.specs.Functions.{Place}
use Rattle.flame_spec.specs.KnownNames.{is_among}
use Rattle.flame_meaning.specs.Outcomes.{place_of, outcome_over}

-- the message is one of these, and its name is among these outputs
abbrev pub IsOfOutput : List MessageType → List (List ℕ) → Sent → Type 0
IsOfOutput messages outputs sent =
    (message : MessageType)
    × (slice_get messages sent.message ≡ Some message)
    × IsTrue (is_among message.name outputs)

-- each of these messages is
abbrev pub AreOfOutputs : List MessageType → List (List ℕ) → List Sent → Type 0
AreOfOutputs messages outputs [] = Unit {0}
AreOfOutputs messages outputs (sent ∷ more) = IsOfOutput messages outputs sent × AreOfOutputs messages outputs more

-- this holds of the messages that are sent, where the function ends
abbrev pub SentAre : (List Sent → Type 0) → Outcome → Type 0
SentAre Holds (Ended effect) = Holds effect.sent
SentAre Holds (Faulted fault) = Unit {0}

-- where function files have no check faults, each message that a function sends is of an output of that function
abbrev pub MessagesAreOfOutputs : Type 0
MessagesAreOfOutputs =
    (source : Source) (function : ℕ) (place : Place) (memory : List ℤ) (readings : List (List (List ℤ)))
    (constants : List ℤ) (iteration : ℤ) (fuel : ℕ)
    → check_faults source.model source.units ≡ []
    → place_of source function ≡ Some place
    → SentAre
    (AreOfOutputs source.model.messages place.function.outputs)
    (outcome_over source function memory readings constants iteration fuel)
