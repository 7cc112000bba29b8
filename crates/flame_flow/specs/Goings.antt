-- How a core goes on by all events of functions and boards that are legal, found from what changed.
use Rattle.std.specs.Prelude.{◌≡◌, ℕ, ◌+◌, ◌*◌, ◌<◌, ◌==◌, List, [], ◌∷◌, ◌++◌, length, slice_get, slice_index, slice_index_or, Some}
use Rattle.std.specs.Prelude.{if◌then◌else◌}
use Rattle.flame_spec.specs.declared.models.Model.{Model}
use Rattle.flame_spec.specs.Before.{before, function_count}
use Rattle.flame_spec.specs.Below.{is_in}
use Rattle.flame_spec.specs.ModelOrder.{model_order}
use Rattle.flame_world.specs.Iterations.{Round}
use Rattle.flame_events.specs.declared.events.Event.{Event}
use Rattle.flame_events.specs.declared.events.Event.TheVariants as event
use Rattle.flame_events.specs.CoreStates.{works_of, Core, status_of}
use Rattle.flame_events.specs.EventBounds.{events_left}
use Rattle.flame_events.specs.LegalEvents.{outputs_of, is_legal}
use Rattle.flame_events.specs.EventSteps.{after}
use Rattle.flame_flow.specs.BegunPieces.{with_number, AreMarksOf}
use Rattle.flame_flow.specs.QuietCores.{ArePiecesWhole, AreLeft}

-- the rank of each function, and those before which each stands [own]
pub record AreWaysOf (model : Model) (ranks : List ℕ) (next : List (List ℕ)) : Type 0 where
  pub ranks_are :
      (function : ℕ)
      → function < function_count model
      → slice_get (model_order model) (slice_index ranks function) ≡ Some function
  pub next_are :
      (function other : ℕ)
      → function < function_count model
      → is_in other (slice_index_or next function []) ≡ before model function other

-- a core, the ranks of functions with pieces that were not begun, and functions that may be over [own]
pub record Going : Type 0 where
  pub core : Core
  pub due : List ℕ
  pub over : List ℕ

-- the event comes, where it is legal [own]
abbrev pub with_legal : Round → ℕ → Event → Core → Core
with_legal round pieces event core = if is_legal round.source.model core event then after round pieces core event else core

-- each of these boards is frozen that may be, one after another [own]
abbrev pub with_frozen : Round → ℕ → List ℕ → Core → Core
with_frozen round pieces [] core = core
with_frozen round pieces (message ∷ messages) core =
    with_frozen round pieces messages (with_legal round pieces (event.Freeze message) core)

-- the function was opened: it may be over, where it has no pieces, else they are to be begun [own]
abbrev pub with_pieces : List ℕ → ℕ → Going → Going
with_pieces ranks function going =
    if length (works_of (status_of going.core function)) == 0
    then record going { over = going.over ++ function ∷ [] }
    else record going { due = with_number (slice_index ranks function) going.due }

-- it is opened, where it may be [own]
abbrev pub with_one_opened : Round → ℕ → List ℕ → ℕ → Going → Going
with_one_opened round pieces ranks function going =
    if is_legal round.source.model going.core (event.Open function)
    then with_pieces ranks function (record going { core = after round pieces going.core (event.Open function) })
    else going

-- each of these functions is, one after another [own]
abbrev pub with_opened : Round → ℕ → List ℕ → List ℕ → Going → Going
with_opened round pieces ranks [] going = going
with_opened round pieces ranks (function ∷ functions) going =
    with_opened round pieces ranks functions (with_one_opened round pieces ranks function going)

-- boards of the function's outputs are frozen, and then functions behind it opened, as far as they may be [own]
abbrev pub with_behind : Round → ℕ → List ℕ → List (List ℕ) → ℕ → Going → Going
with_behind round pieces ranks next function going =
    with_opened round pieces ranks (slice_index_or next function [])
    (record going { core = with_frozen round pieces (outputs_of round.source.model function) going.core })

-- the function is shut and what this allows comes, where it may be [own]
abbrev pub with_shut : Round → ℕ → List ℕ → List (List ℕ) → ℕ → Going → Going
with_shut round pieces ranks next function going =
    if is_legal round.source.model going.core (event.Shut function)
    then with_behind round pieces ranks next function
    (record going { core = after round pieces going.core (event.Shut function) })
    else going

-- of functions and boards no more is legal than to shut those that may be over, to freeze these boards and to open these
-- functions; each piece is whole; and pieces are marked [own]
pub record GoesOn (model : Model) (begun messages waiting : List ℕ) (going : Going) : Type 0 where
  pub left : AreLeft model going.over messages waiting going.core
  pub whole : ArePiecesWhole model going.core
  pub marks : AreMarksOf model begun going.due going.core

-- how much there is to do: each function that may be over is looked at, and each event that is left may make one so [own]
abbrev pub work_left : Going → ℕ
work_left going = 2 * events_left going.core + length going.over
