-- A world of a model stays one.
use Rattle.std.specs.Prelude.{◌≡◌, ℕ, ℤ, List, length}
use Rattle.std.specs.List.{AllZip}
use Rattle.flame_rows.specs.Order.{row_order}
use Rattle.flame_rows.specs.Sorted.{IsAscending}
use Rattle.flame_spec.specs.declared.models.Model.{Model}
use Rattle.flame_spec.specs.declared.outcomes.Source.{Source}
use Rattle.flame_spec.specs.Columns.{width}
use Rattle.flame_spec.specs.Definitions.{definitions}
use Rattle.flame_meaning.specs.RangeLaws.{IsInt, AreInts, AllWriteInts, Each}
use Rattle.flame_world.specs.declared.turns.Turn.TheVariants.{Done}
use Rattle.flame_world.specs.declared.worlds.World.{World}
use Rattle.flame_world.specs.declared.worlds.Boards.{Boards}
use Rattle.flame_world.specs.Iterations.{iteration}

-- a row of this width, with numbers within int [own]
abbrev pub IsRowOf : ℕ → List ℤ → Type 0
IsRowOf wide row = (length row ≡ wide) × AreInts row

-- a bag of such rows [own]
abbrev pub IsBagOf : ℕ → List (List ℤ) → Type 0
IsBagOf wide bag = IsAscending row_order bag × Each (IsRowOf wide) bag

-- a world of the model: its constants, and one bag for each agent type, with memories as wide as it declares [own]
pub record IsWorldOf (model : Model) (world : World) : Type 0 where
  pub count : length world.constants ≡ length model.constants
  pub ints : AreInts world.constants
  pub agents : AllZip (λ type bag. IsBagOf (width type.memory) bag) model.agents world.agents

-- boards of the model: one bag for each message, with rows as wide as it declares [own]
abbrev pub AreBoardsOf : Model → Boards → Type 0
AreBoardsOf model boards = AllZip (λ message bag. IsBagOf (width message.variables) bag) model.messages boards.boards

-- where all numbers in the function files are within int, an iteration of a world of the model ends with a world and
-- with boards of the model [own]
abbrev pub WorldsStayWorlds : Type 0
WorldsStayWorlds =
    (source : Source) (world after : World) (number : ℤ) (fuel : ℕ) (boards : Boards)
    → AllWriteInts (definitions source.units)
    → IsInt number
    → IsWorldOf source.model world
    → iteration source world number fuel ≡ Done after boards
    → IsWorldOf source.model after × AreBoardsOf source.model boards
