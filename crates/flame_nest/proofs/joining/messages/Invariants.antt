use Rattle.std.proofs.Common.{◌≡◌, take, map}
use Rattle.flame_nest.specs.FlatModels.{flat_message}
use Rattle.flame_nest.proofs.joining.messages.Given as goal

abbrev pub invariant-loop-message : goal.invariant-loop-message
invariant-loop-message l =
    l.flat.items
    ≡ map (flat_message l.kinds) (map (λ message. message.now) (take l.message-index l.messages))
