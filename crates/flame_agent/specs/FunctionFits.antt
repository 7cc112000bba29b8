-- What a run of a function for an agent asks for: a memory, constants and boards as wide as the model declares.
use Rattle.std.specs.Prelude.{◌≡◌, ℕ, ℤ, List, Some, length, slice_get}
use Rattle.std.specs.List.{AllZip}
use Rattle.flame_spec.specs.declared.models.Input.{Input}
use Rattle.flame_spec.specs.declared.models.Model.{Model}
use Rattle.flame_spec.specs.Columns.{width}
use Rattle.flame_spec.specs.Functions.{Place, functions}
use Rattle.flame_body.specs.FunctionBodies.{input_width}
use Rattle.flame_world.specs.declared.settings.Setting.{Setting}
use Rattle.flame_world.specs.Settings.{boards_of}
use Rattle.flame_world.specs.WorldFits.{AreWide}

-- the messages of this board are as wide as the model declares those that the input reads [XMML]
abbrev pub IsBoardFor : Model → Input → List (List ℤ) → Type 0
IsBoardFor model input board = AreWide (input_width model input) board

-- there is a board for each of these inputs, and its messages are as wide as declared [XMML]
abbrev pub AreBoardsFor : Model → List Input → List (List (List ℤ)) → Type 0
AreBoardsFor model inputs boards = AllZip (IsBoardFor model) inputs boards

-- the function of this number stands in this place, and the memory, the constants and the messages on the boards of its
-- inputs are as wide as the model declares [XMML]
pub record FitsFunction (model : Model) (function : ℕ) (setting : Setting) (memory : List ℤ) : Type 0 where
  pub place : Place
  pub there : slice_get (functions model) function ≡ Some place
  pub wide : length memory ≡ width place.type.memory
  pub count : length setting.constants.now ≡ length model.constants
  pub boards : AreBoardsFor model place.function.inputs (boards_of setting)
