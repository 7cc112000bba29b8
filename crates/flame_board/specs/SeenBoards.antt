-- What is seen of a board that gathers.
use Rattle.std.specs.Prelude.{ℕ, ℤ, List, map}
use Rattle.std.specs.List.{Contains}
use Rattle.crossbeam_channel.specs.Ends.{sends_on, receives_on}
use Rattle.flame_board.specs.declared.boards.Board.{Board}
use Rattle.flame_board.specs.declared.lanes.Lane.{Lane}
use Rattle.flame_board.specs.declared.layers.Layer.{Layer}
use Rattle.flame_board.specs.LayerPieces.{lane_dues}
use Rattle.flame_board.specs.SeenLanes.{AreEndsOf, IsNewLane}

-- the messages that were there before [libmboard]
abbrev pub before_of : Board → List (List ℤ)
before_of board = board.before

-- the board takes from this lane [own]
abbrev pub IsLaneOf : Board → Lane → Type 0
IsLaneOf board lane = Contains (map (λ end. receives_on end.receiver) board.ends.items) (sends_on lane.sender)

-- these are all the lanes from which it takes, in their order [own]
abbrev pub AreLanesOf : Board → List Lane → Type 0
AreLanesOf board lanes = AreEndsOf board.ends.items lanes

-- the lane of this number of a layer, to a board of the message, by which nothing was handed in yet [own]
abbrev pub IsLaneFor : Layer → ℕ → ℕ → Lane → Type 0
IsLaneFor layer message number lane = IsNewLane (lane_dues layer message number) number lane
