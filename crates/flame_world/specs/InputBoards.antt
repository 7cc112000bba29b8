-- The boards of a function's inputs, among the boards of all messages.
use Rattle.std.specs.Prelude.{◌≡◌, ℕ, ℤ, List, [], map, Option, Some, None, slice_index_or}
use Rattle.flame_spec.specs.declared.models.Model.{Model}
use Rattle.flame_spec.specs.declared.models.MessageType.{MessageType}
use Rattle.flame_spec.specs.Functions.{Place}
use Rattle.flame_meaning.specs.Outcomes.{place_of, message_named, outcome}
use Rattle.flame_world.specs.declared.settings.Setting.{Setting}
use Rattle.flame_world.specs.Settings.{boards_of}
use Rattle.flame_world.specs.Meaning.{outcome_under}

-- the board of the message that was found, of the boards of all messages in order [libmboard; no message: own]
abbrev pub board_of : Option (ℕ × MessageType) → List (List (List ℤ)) → List (List ℤ)
board_of None boards = []
board_of (Some found) boards = slice_index_or boards found.0 []

-- the boards that the inputs of the function of this place name, in the order of the inputs [FLAME User Manual]
abbrev pub boards_named : Option Place → Model → List (List (List ℤ)) → List (List (List ℤ))
boards_named None model boards = []
boards_named (Some place) model boards =
    map (λ input. board_of (message_named model.messages input.message) boards) place.function.inputs

-- under a setting with the boards that the function's inputs name, an agent's outcome is that over the boards of all
-- messages [FLAME User Manual]
abbrev pub NamedBoardsAreEnough : Type 0
NamedBoardsAreEnough =
    (setting : Setting) (function : ℕ) (memory : List ℤ) (boards : List (List (List ℤ)))
    → boards_of setting ≡ boards_named (place_of setting.source.now function) setting.source.now.model boards
    → outcome_under setting function memory
    ≡ outcome setting.source.now function memory boards setting.constants.now setting.iteration setting.fuel
