-- How many events are left, and that each legal event lessens that.
use Rattle.std.specs.Prelude.{◌≡◌, ℕ, ◌+◌, ◌-◌, List, length, sum_by, count_by, Bool, true, false, not, is_some, IsTrue}
use Rattle.std.specs.List.{list_all}
use Rattle.flame_world.specs.Iterations.{Round}
use Rattle.flame_events.specs.declared.events.Event.{Event}
use Rattle.flame_events.specs.declared.events.Event.TheVariants as event
use Rattle.flame_events.specs.CoreStates.{Work, Status, Waiting, Open, Shut, Faulted, works_of, Core}
use Rattle.flame_events.specs.LegalEvents.{is_legal}
use Rattle.flame_events.specs.EventSteps.{after, replay, are_legal}
use Rattle.flame_events.specs.CoreFits.{FitsCore}

-- ---- of functions and boards

-- a function that waits is to be opened and shut, one that is open to be shut [own]
abbrev pub turns_left : Status → ℕ
turns_left Waiting = 2
turns_left (Open works) = 1
turns_left Shut = 0
turns_left (Faulted fault) = 0

-- the events that are left of all functions, and of boards: each that gathers is to be frozen [own]
abbrev pub events_left : Core → ℕ
events_left core = sum_by turns_left core.statuses + count_by not core.frozen

-- ---- of pieces

-- each agent of a piece that did not run is to run, and each of its parts that is not handed in is to be handed in
-- [own]
abbrev pub piece_events_left : Work → ℕ
piece_events_left work = length work.agents - work.ran + count_by is_some work.parts

-- the events that are left of all pieces of open functions [own]
abbrev pub pieces_left : Core → ℕ
pieces_left core = sum_by (λ status. sum_by piece_events_left (works_of status)) core.statuses

-- the event is one of a piece: an agent runs, or messages are handed in [own]
abbrev pub is_of_piece : Event → Bool
is_of_piece (event.Open function) = false
is_of_piece (event.Agent function piece) = true
is_of_piece (event.HandIn function piece message) = true
is_of_piece (event.Shut function) = false
is_of_piece (event.Freeze message) = false

-- ---- one event

-- in a core that fits the model, a legal event of a function or of a board lessens by one how many of these are left
-- [own]
abbrev pub EventsRunOut : Type 0
EventsRunOut =
    (round : Round) (pieces : ℕ) (core : Core) (event : Event)
    → FitsCore round.source.model core
    → IsTrue (is_legal round.source.model core event)
    → is_of_piece event ≡ false
    → events_left (after round pieces core event) + 1 ≡ events_left core

-- a legal event of a piece lessens by one how many of these are left, and leaves as many of functions and boards [own]
abbrev pub PieceEventsRunOut : Type 0
PieceEventsRunOut =
    (round : Round) (pieces : ℕ) (core : Core) (event : Event)
    → FitsCore round.source.model core
    → IsTrue (is_legal round.source.model core event)
    → is_of_piece event ≡ true
    → (pieces_left (after round pieces core event) + 1 ≡ pieces_left core)
    × (events_left (after round pieces core event) ≡ events_left core)

-- ---- many events

-- when events came, each legal when it did, those of functions and boards among them and those that are left are
-- together as many as were left before [own]
abbrev pub LegalEventsAreBounded : Type 0
LegalEventsAreBounded =
    (round : Round) (pieces : ℕ) (core : Core) (events : List Event)
    → FitsCore round.source.model core
    → IsTrue (are_legal round pieces core events)
    → events_left (replay round pieces core events) + count_by (λ event. not (is_of_piece event)) events
    ≡ events_left core

-- where all that came are of pieces, they and those that are left are together as many as were left before [own]
abbrev pub PieceEventsAreBounded : Type 0
PieceEventsAreBounded =
    (round : Round) (pieces : ℕ) (core : Core) (events : List Event)
    → FitsCore round.source.model core
    → IsTrue (are_legal round pieces core events)
    → list_all is_of_piece events ≡ true
    → pieces_left (replay round pieces core events) + length events ≡ pieces_left core
