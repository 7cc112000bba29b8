-- All messages of a piece handed in.
use Rattle.std.specs.Prelude.{◌≡◌, ℕ, ◌+◌, ℤ, List, [], ◌∷◌, map, length, true, false, IsTrue}
use Rattle.std.specs.Prelude.{Option, Some, None, is_some}
use Rattle.std.specs.List.{list_all}
use Rattle.flame_rows.specs.Bags.{merge}
use Rattle.flame_spec.specs.Below.{HasNoTwice}
use Rattle.flame_world.specs.Iterations.{Round}
use Rattle.flame_events.specs.declared.events.Event.{Event}
use Rattle.flame_events.specs.declared.events.Event.TheVariants as event
use Rattle.flame_events.specs.CoreStates.{Work, has_left, part_in, Core, work_of}
use Rattle.flame_events.specs.LegalEvents.{outputs_of}
use Rattle.flame_events.specs.EventSteps.{with_work, replay, are_legal}

-- the events by which a piece hands in its messages, output by output [own]
abbrev pub hand_in_events : List ℕ → ℕ → ℕ → List Event
hand_in_events outputs function piece = map (λ message. event.HandIn function piece message) outputs

-- a board with these messages, where there are such [own]
abbrev pub with_part : Option (List (List ℤ)) → List (List ℤ) → List (List ℤ)
with_part None board = board
with_part (Some rows) board = merge board rows

-- each of these boards, which are numbered from i, with the part for its message, where these outputs have one [own]
abbrev pub with_parts :
    List ℕ → List (Option (List (List ℤ))) → ℕ → List (List (List ℤ)) → List (List (List ℤ))
with_parts outputs parts i [] = []
with_parts outputs parts i (board ∷ boards) =
    with_part (part_in outputs parts i) board ∷ with_parts outputs parts (i + 1) boards

-- the piece has no part any more, and each board has its messages for it [own]
abbrev pub all_handed_in : List ℕ → ℕ → ℕ → Work → Core → Core
all_handed_in outputs function piece work core = record core {
  statuses = with_work core function piece (record work { parts = map (λ output. None) outputs });
  field = record core.field { boards = with_parts outputs work.parts 0 core.field.boards };
}

-- where all agents of a piece ran, and none of its parts, one for each output, is handed in, and no output stands twice:
-- its events are legal, one after another, and leave the core in which all its parts are handed in at once [own]
abbrev pub PartsAreHandedInAtOnce : Type 0
PartsAreHandedInAtOnce =
    (round : Round) (pieces function piece : ℕ) (work : Work) (core : Core)
    → work_of core function piece ≡ Some work
    → has_left work ≡ false
    → length work.parts ≡ length (outputs_of round.source.model function)
    → list_all is_some work.parts ≡ true
    → HasNoTwice (outputs_of round.source.model function)
    → IsTrue
    (are_legal round pieces core (hand_in_events (outputs_of round.source.model function) function piece))
    × (replay round pieces core (hand_in_events (outputs_of round.source.model function) function piece)
    ≡ all_handed_in (outputs_of round.source.model function) function piece work core)
