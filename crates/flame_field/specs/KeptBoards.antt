-- How boards are kept.
use Rattle.std.specs.Prelude.{ℤ, List, Bool, true, false}
use Rattle.std.specs.Arc.{arc_value}
use Rattle.flame_rows.specs.Bags.{ascending}
use Rattle.flame_index.specs.FrozenBoards.{Kept, messages_on, nothing_kept, shared_messages}
use Rattle.flame_field.specs.KeptGatherings.{bag_of}
use Rattle.flame_field.specs.declared.boards.Board.{Board}
use Rattle.flame_field.specs.declared.boards.Board.TheVariants as board

-- the bag of its messages; those of a board that is frozen stand in order already [libmboard]
abbrev pub board_bag : Board → List (List ℤ)
board_bag (board.Gathering messages) = bag_of messages
board_bag (board.Frozen frozen) = ascending (messages_on frozen)
board_bag (board.Shared frozen) = ascending (shared_messages frozen)

-- no message comes any more [libmboard]
abbrev pub is_board_frozen : Board → Bool
is_board_frozen (board.Gathering messages) = false
is_board_frozen (board.Frozen frozen) = true
is_board_frozen (board.Shared frozen) = true

-- those who read it may share it [own]
abbrev pub is_board_shared : Board → Bool
is_board_shared (board.Gathering messages) = false
is_board_shared (board.Frozen frozen) = false
is_board_shared (board.Shared frozen) = true

-- what is kept beside its messages; while they come, nothing [own]
abbrev pub board_keeps : Board → Kept
board_keeps (board.Gathering messages) = nothing_kept
board_keeps (board.Frozen frozen) = frozen.kept
board_keeps (board.Shared frozen) = (arc_value frozen).kept
