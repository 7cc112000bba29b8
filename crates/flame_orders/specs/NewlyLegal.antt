-- What an event newly allows.
use Rattle.std.specs.Prelude.{◌≡◌, ◌⊎◌, ℕ, [], true, IsTrue}
use Rattle.flame_spec.specs.declared.models.Model.{Model}
use Rattle.flame_spec.specs.Below.{is_in}
use Rattle.flame_world.specs.Iterations.{Round}
use Rattle.flame_events.specs.declared.events.Event.{Event}
use Rattle.flame_events.specs.declared.events.Event.TheVariants as event
use Rattle.flame_events.specs.CoreStates.{is_shut, works_of, Core, status_of}
use Rattle.flame_events.specs.CoreLaws.{EventsLeadTo}
use Rattle.flame_events.specs.LegalEvents.{predecessors, inputs_of, outputs_of, is_legal}
use Rattle.flame_events.specs.EventSteps.{after}

-- ---- one event, which left this core

-- a function was opened: an agent of it runs, or it is shut, where nobody takes it [own]
abbrev pub AllowedByOpen : Core → ℕ → Event → Type 0
AllowedByOpen core function next =
    ((piece : ℕ) × (next ≡ event.Agent function piece))
    ⊎ ((next ≡ event.Shut function) × (works_of (status_of core function) ≡ []))

-- an agent of a piece ran: the next one of the piece runs, the piece hands in messages for an output, or the function is
-- shut, where it has no outputs [own]
abbrev pub AllowedByAgent : Model → ℕ → ℕ → Event → Type 0
AllowedByAgent model function piece next =
    (next ≡ event.Agent function piece)
    ⊎ ((message : ℕ)
    × (next ≡ event.HandIn function piece message)
    × IsTrue (is_in message (outputs_of model function)))
    ⊎ ((next ≡ event.Shut function) × (outputs_of model function ≡ []))

-- a function was shut without a fault: one that it stands before is opened, or a board that it writes is frozen [own]
abbrev pub AllowedByShut : Model → Core → ℕ → Event → Type 0
AllowedByShut model core function next =
    (is_shut (status_of core function) ≡ true)
    × (((other : ℕ) × (next ≡ event.Open other) × IsTrue (is_in function (predecessors model other)))
    ⊎ ((message : ℕ) × (next ≡ event.Freeze message) × IsTrue (is_in message (outputs_of model function))))

-- a board was frozen: a function that inputs its message is opened [own]
abbrev pub AllowedByFreeze : Model → ℕ → Event → Type 0
AllowedByFreeze model message next =
    (other : ℕ) × (next ≡ event.Open other) × IsTrue (is_in message (inputs_of model other))

-- ---- every event

-- the first event left this core, and may have allowed the other one: messages that were handed in allow their function to
-- be shut; and with a fault a function that is shut allows nothing [own]
abbrev pub Allows : Model → Core → Event → Event → Type 0
Allows model core (event.Open function) next = AllowedByOpen core function next
Allows model core (event.Agent function piece) next = AllowedByAgent model function piece next
Allows model core (event.HandIn function piece message) next = next ≡ event.Shut function
Allows model core (event.Shut function) next = AllowedByShut model core function next
Allows model core (event.Freeze message) next = AllowedByFreeze model message next

-- what is legal after a legal event is another one that was legal before, or one that it allows [own]
abbrev pub NewlyLegalIsAllowed : Type 0
NewlyLegalIsAllowed =
    (round : Round) (pieces : ℕ) (core : Core) (event next : Event)
    → EventsLeadTo round pieces core
    → IsTrue (is_legal round.source.model core event)
    → IsTrue (is_legal round.source.model (after round pieces core event) next)
    → (IsTrue (is_legal round.source.model core next) × ¬ (next ≡ event))
    ⊎ Allows round.source.model (after round pieces core event) event next
