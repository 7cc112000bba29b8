use Rattle.std.proofs.Common.{◌≡◌, [], map, take}
use Rattle.std.specs.Prelude.{slice_index_or}
use Rattle.flame_index.specs.FrozenBoards.{shared_messages}
use Rattle.flame_field.specs.KeptBoards.{board_bag}
use Rattle.flame_core.proofs.absorbing.same_boards.Given as goal

abbrev pub invariant-loop-i : goal.invariant-loop-i
invariant-loop-i l =
    take l.i (map shared_messages l.read)
    ≡ take l.i (map (λ message. slice_index_or (map board_bag l.boards) message []) l.messages)
