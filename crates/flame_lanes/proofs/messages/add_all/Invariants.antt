use Rattle.std.proofs.Common.{◌≡◌, drop}
use Rattle.flame_lanes.specs.ListedMessages.{with_messages}
use Rattle.flame_lanes.proofs.messages.add_all.Given as goal

abbrev pub invariant-loop-message : goal.invariant-loop-message
invariant-loop-message l =
    with_messages (drop l.message-index l.outputs) l.messages ≡ with_messages l.outputs l.fn.messages
