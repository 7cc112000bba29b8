use Rattle.std.proofs.Common.{◌≡◌, [], map, take, slice_index_or}
use Rattle.flame_index.specs.FrozenBoards.{shared_messages}
use Rattle.flame_case_runs.proofs.shares.boards_in.Given as goal

abbrev pub invariant-loop-message : goal.invariant-loop-message
invariant-loop-message l =
    map shared_messages l.read.items
    ≡ map (λ message. slice_index_or l.boards message []) (take l.message-index l.messages)
