-- What opening functions leaves to the takers of another one.
use Rattle.std.specs.Prelude.{◌≡◌, ℕ, List, map, slice_get, Some}
use Rattle.flame_spec.specs.Functions.{Place, functions}
use Rattle.flame_meaning.specs.RangeLaws.{Each}
use Rattle.flame_world.specs.Iterations.{Round, taking}
use Rattle.flame_events.specs.declared.events.Event.TheVariants as event
use Rattle.flame_events.specs.CoreStates.{Core}
use Rattle.flame_events.specs.EventSteps.{after, replay}

-- a function of the model has the same takers when another one is opened, also where both leave one state, and whether
-- that may be opened or not [own]
abbrev pub OpeningLeavesOtherTakers : Type 0
OpeningLeavesOtherTakers =
    (round : Round) (pieces function other : ℕ) (place : Place) (core : Core)
    → slice_get (functions round.source.model) function ≡ Some place
    → ¬ (other ≡ function)
    → taking round function place (after round pieces core (event.Open other)).field
    ≡ taking round function place core.field

-- and so it has when many others are opened, one after another [own]
abbrev pub OpeningsLeaveOtherTakers : Type 0
OpeningsLeaveOtherTakers =
    (round : Round) (pieces function : ℕ) (others : List ℕ) (place : Place) (core : Core)
    → slice_get (functions round.source.model) function ≡ Some place
    → Each (λ other. ¬ (other ≡ function)) others
    → taking round function place (replay round pieces core (map event.Open others)).field
    ≡ taking round function place core.field
