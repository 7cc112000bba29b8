use Rattle.std.proofs.Common.{◌≡◌, ◌++◌, map, take, not}
use Rattle.std.specs.List.{filter}
use Rattle.flame_nest.specs.GivenTables.{given_in}
use Rattle.flame_nest.proofs.messages.keep_new.Given as goal

abbrev pub invariant-loop-message : goal.invariant-loop-message
invariant-loop-message l =
    map (λ message. message.now) l.kept.items
    ≡ map (λ message. message.now) l.fn.kept.items
    ++ filter (λ message. not ((given_in l.earlier).has message.name)) (take l.message-index l.messages)
