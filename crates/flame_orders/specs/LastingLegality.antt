-- What is legal stays so until it comes.
use Rattle.std.specs.Prelude.{◌≡◌, ℕ, List, IsTrue}
use Rattle.flame_meaning.specs.RangeLaws.{Each}
use Rattle.flame_world.specs.Iterations.{Round}
use Rattle.flame_events.specs.declared.events.Event.{Event}
use Rattle.flame_events.specs.CoreStates.{Core}
use Rattle.flame_events.specs.CoreLaws.{EventsLeadTo}
use Rattle.flame_events.specs.LegalEvents.{is_legal}
use Rattle.flame_events.specs.EventSteps.{after, replay, are_legal}

-- of two different events that are legal, each still is after the other [own]
abbrev pub LegalityLasts : Type 0
LegalityLasts =
    (round : Round) (pieces : ℕ) (core : Core) (event other : Event)
    → EventsLeadTo round pieces core
    → IsTrue (is_legal round.source.model core event)
    → IsTrue (is_legal round.source.model core other)
    → ¬ (other ≡ event)
    → IsTrue (is_legal round.source.model (after round pieces core event) other)

-- while events come, each legal when it comes and another than this one, it stays legal [own]
abbrev pub LegalityLastsLong : Type 0
LegalityLastsLong =
    (round : Round) (pieces : ℕ) (core : Core) (events : List Event) (other : Event)
    → EventsLeadTo round pieces core
    → IsTrue (are_legal round pieces core events)
    → IsTrue (is_legal round.source.model core other)
    → Each (λ event. ¬ (other ≡ event)) events
    → IsTrue (is_legal round.source.model (replay round pieces core events) other)
