-- What an event leaves as it was, whether it is legal or not.
use Rattle.std.specs.Prelude.{◌≡◌, ℕ, true, Option, Some, None}
use Rattle.flame_world.specs.Iterations.{Round}
use Rattle.flame_events.specs.declared.events.Event.{Event}
use Rattle.flame_events.specs.declared.events.Event.TheVariants as event
use Rattle.flame_events.specs.CoreStates.{Core, status_of, work_of, is_frozen}
use Rattle.flame_events.specs.EventBounds.{is_of_piece}
use Rattle.flame_events.specs.EventSteps.{after}

-- ---- whose event it is

-- the function of the event, where it is not one of a board [own]
abbrev pub its_function : Event → Option ℕ
its_function (event.Open function) = Some function
its_function (event.Agent function piece) = Some function
its_function (event.HandIn function piece message) = Some function
its_function (event.Shut function) = Some function
its_function (event.Freeze message) = None

-- the number of its piece, where it is one of a piece [own]
abbrev pub its_piece : Event → Option ℕ
its_piece (event.Open function) = None
its_piece (event.Agent function piece) = Some piece
its_piece (event.HandIn function piece message) = Some piece
its_piece (event.Shut function) = None
its_piece (event.Freeze message) = None

-- the board that it freezes [own]
abbrev pub frozen_by : Event → Option ℕ
frozen_by (event.Open function) = None
frozen_by (event.Agent function piece) = None
frozen_by (event.HandIn function piece message) = None
frozen_by (event.Shut function) = None
frozen_by (event.Freeze message) = Some message

-- ---- what stays

-- a function stays as it is, with all its pieces, at an event that is not its own [own]
abbrev pub OtherFunctionsStay : Type 0
OtherFunctionsStay =
    (round : Round) (pieces function : ℕ) (event : Event) (core : Core)
    → ¬ (its_function event ≡ Some function)
    → status_of (after round pieces core event) function ≡ status_of core function

-- a piece stays as it is at an event of a piece of another number [own]
abbrev pub OtherPiecesStay : Type 0
OtherPiecesStay =
    (round : Round) (pieces function piece : ℕ) (event : Event) (core : Core)
    → is_of_piece event ≡ true
    → ¬ (its_piece event ≡ Some piece)
    → work_of (after round pieces core event) function piece ≡ work_of core function piece

-- the mark of a board stays at an event that does not freeze it [own]
abbrev pub OtherMarksStay : Type 0
OtherMarksStay =
    (round : Round) (pieces message : ℕ) (event : Event) (core : Core)
    → ¬ (frozen_by event ≡ Some message)
    → is_frozen (after round pieces core event) message ≡ is_frozen core message
