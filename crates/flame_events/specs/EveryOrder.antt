-- Every order of events comes to the iteration.
use Rattle.std.specs.Prelude.{◌≡◌, ℕ, ◌<◌, ℤ, List, length, true, false, IsTrue}
use Rattle.flame_spec.specs.declared.models.Model.{Model}
use Rattle.flame_spec.specs.declared.outcomes.Source.{Source}
use Rattle.flame_spec.specs.Accepted.{IsAccepted}
use Rattle.flame_spec.specs.Below.{is_in}
use Rattle.flame_world.specs.declared.worlds.World.{World}
use Rattle.flame_world.specs.Iterations.{Round, round_of, iteration}
use Rattle.flame_events.specs.declared.events.Event.{Event}
use Rattle.flame_events.specs.declared.events.Event.TheVariants as event
use Rattle.flame_events.specs.CoreStates.{Core, opening_core}
use Rattle.flame_events.specs.LegalEvents.{inputs_of, is_legal}
use Rattle.flame_events.specs.EventSteps.{replay, are_legal}
use Rattle.flame_events.specs.CoreEnds.{wanted, is_complete, ending}

-- the event is one of a wanted function, or freezes a board that a wanted function inputs [own]
abbrev pub IsOfWanted : Model → Core → Event → Type 0
IsOfWanted model core (event.Open function) = IsTrue (is_in function (wanted model core))
IsOfWanted model core (event.Agent function piece) = IsTrue (is_in function (wanted model core))
IsOfWanted model core (event.HandIn function piece message) = IsTrue (is_in function (wanted model core))
IsOfWanted model core (event.Shut function) = IsTrue (is_in function (wanted model core))
IsOfWanted model core (event.Freeze message) =
    (function : ℕ) × IsTrue (is_in function (wanted model core)) × IsTrue (is_in message (inputs_of model function))

-- there is a legal event of a wanted function, or one that freezes a board which such a function inputs [own]
abbrev pub CanGoOn : Model → Core → Type 0
CanGoOn model core = (next : Event) × IsTrue (is_legal model core next) × IsOfWanted model core next

-- whatever events come, each legal when it comes: where the core is complete, it comes to the iteration, and where it
-- is not, there is such an event [own]
abbrev pub EveryOrderIsTheIteration : Type 0
EveryOrderIsTheIteration =
    (source : Source) (world : World) (number : ℤ) (fuel pieces : ℕ) (events : List Event)
    → IsAccepted source
    → length world.agents ≡ length source.model.agents
    → 0 < pieces
    → let round : Round = round_of source world number fuel in
    let start : Core = opening_core source.model world.agents in
    let core : Core = replay round pieces start events in
    IsTrue (are_legal round pieces start events)
    → (is_complete source.model core ≡ true → ending round core ≡ iteration source world number fuel)
    × (is_complete source.model core ≡ false → CanGoOn source.model core)
