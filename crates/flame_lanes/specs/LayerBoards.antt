-- The boards of a layer: those of the messages that its functions output, which lanes fill.
use Rattle.std.specs.Prelude.{◌≡◌, ℕ, ◌+◌, ◌==◌, ℤ, List, [], ◌∷◌, Vec, length, map, slice_index_or, if◌then◌else◌}
use Rattle.std.specs.Global.{Global}
use Rattle.std.specs.List.{AllZip}
use Rattle.flame_rows.specs.Bags.{weigh}
use Rattle.flame_board.specs.declared.boards.Board.{Board}
use Rattle.flame_board.specs.declared.lanes.Lane.{Lane}
use Rattle.flame_board.specs.SeenBoards.{AreLanesOf, before_of}
use Rattle.flame_board.specs.SeenLanes.{weigh_lanes}
use Rattle.flame_field.specs.declared.boards.Board as field
use Rattle.flame_field.specs.KeptBoards.{board_bag}

-- what the messages of this type weigh on the boards of a field [libmboard]
abbrev pub weigh_board : List field.Board → ℕ → (List ℤ → ℕ) → ℕ
weigh_board boards message weight = weigh weight (slice_index_or (map board_bag boards) message [])

-- what the boards of a layer for these messages have of this type: what was there before [libmboard]
abbrev pub weigh_before : List ℕ → List Board → ℕ → (List ℤ → ℕ) → ℕ
weigh_before [] boards message weight = 0
weigh_before (own ∷ messages) [] message weight = 0
weigh_before (own ∷ messages) (board ∷ boards) message weight =
    (if own == message then weigh weight (before_of board) else 0) + weigh_before messages boards message weight

-- what was handed in for them of this type by these lanes [libmboard]
abbrev pub weigh_columns : List ℕ → List (Vec Lane Global) → ℕ → (List ℤ → ℕ) → ℕ
weigh_columns [] columns message weight = 0
weigh_columns (own ∷ messages) [] message weight = 0
weigh_columns (own ∷ messages) (column ∷ columns) message weight =
    (if own == message then weigh_lanes weight column.items else 0) + weigh_columns messages columns message weight

-- each of these boards takes from its lanes [own]
abbrev pub TakeFrom : List Board → List (Vec Lane Global) → Type 0
TakeFrom boards columns = AllZip (λ board column. AreLanesOf board column.items) boards columns

-- each board has so many lanes, each its own, by which nothing was handed in yet [own]
pub record AreNewBoards (lanes : ℕ) (boards : List Board) (columns : List (Vec Lane Global)) : Type 0 where
  pub own : TakeFrom boards columns
  pub count : AllZip (λ board (column : Vec Lane Global). length column.items ≡ lanes) boards columns
  pub fresh :
      AllZip
      (λ board (column : Vec Lane Global). (weight : List ℤ → ℕ) → weigh_lanes weight column.items ≡ 0)
      boards columns
