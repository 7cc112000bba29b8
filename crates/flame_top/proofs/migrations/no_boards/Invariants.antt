-- A board without messages for each message type so far.
use Rattle.std.proofs.Common.{◌≡◌, [], map, take}
use Rattle.flame_top.proofs.migrations.no_boards.Given as goal

abbrev pub invariant-loop-message : goal.invariant-loop-message
invariant-loop-message l = l.boards.items ≡ map (λ message. []) (take l._message-index l.messages)
