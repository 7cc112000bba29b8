-- What is left to come of an iteration when all that may be done at once is done.
use Rattle.std.specs.Prelude.{◌≡◌, ◌⊎◌, ℕ, List, Bool, true, Some, IsTrue}
use Rattle.flame_spec.specs.declared.models.Model.{Model}
use Rattle.flame_spec.specs.Below.{is_in}
use Rattle.flame_events.specs.declared.events.Event.{Event}
use Rattle.flame_events.specs.declared.events.Event.TheVariants as event
use Rattle.flame_events.specs.CoreStates.{Work, Core, work_of}
use Rattle.flame_events.specs.EventBounds.{is_of_piece}
use Rattle.flame_events.specs.LegalEvents.{outputs_of, is_over, is_legal}

-- no Open, no Shut and no Freeze is legal [own]
abbrev pub IsQuiet : Model → Core → Type 0
IsQuiet model core = (event : Event) → IsTrue (is_legal model core event) → is_of_piece event ≡ true

-- of each piece of an open function none of the agents ran, or all ran and everything is handed in [own]
abbrev pub ArePiecesWhole : Model → Core → Type 0
ArePiecesWhole model core =
    (function piece : ℕ) (work : Work)
    → work_of core function piece ≡ Some work
    → (work.ran ≡ 0) ⊎ (is_over (outputs_of model function) work ≡ true)

-- the event shuts one of these functions, freezes one of these boards, opens one of those functions, or is one of a piece
-- [own]
abbrev pub is_left : List ℕ → List ℕ → List ℕ → Event → Bool
is_left over messages waiting (event.Open function) = is_in function waiting
is_left over messages waiting (event.Agent function piece) = true
is_left over messages waiting (event.HandIn function piece message) = true
is_left over messages waiting (event.Shut function) = is_in function over
is_left over messages waiting (event.Freeze message) = is_in message messages

-- of functions and boards no more is legal than to shut these functions, to freeze these boards and to open those functions
-- [own]
abbrev pub AreLeft : Model → List ℕ → List ℕ → List ℕ → Core → Type 0
AreLeft model over messages waiting core =
    (event : Event) → IsTrue (is_legal model core event) → is_left over messages waiting event ≡ true
