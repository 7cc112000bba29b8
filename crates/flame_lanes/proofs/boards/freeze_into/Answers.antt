use Rattle.std.proofs.Common.{refl}
use Rattle.flame_index.specs.FrozenBoards.{messages_on}
use Rattle.flame_board.specs.SeenBoards.{before_of}
use Rattle.flame_field.specs.KeptBoards.{board_bag}
use Rattle.flame_lanes.proofs.BoardWeights.{frozen-weighs}
use Rattle.flame_lanes.proofs.boards.freeze_into.Goals as goal

pub returns : goal.returns
returns g c = λ weight.
    frozen-weighs weight (board_bag c.args.into.now) (board_bag c.put.new.board) (messages_on c.in_ok-frozen.frozen) _
    (before_of c.args.board) c.args.column.items c.args.column.items c.in_ok-put.ensures refl c.in_ok-frozen.ensures refl
