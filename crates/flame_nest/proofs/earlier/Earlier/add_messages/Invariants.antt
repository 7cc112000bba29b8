use Rattle.std.proofs.Common.{◌≡◌, map, take}
use Rattle.std.specs.List.{fold}
use Rattle.flame_nest.specs.NestFaults.{of_message}
use Rattle.flame_nest.specs.GivenTables.{with_declaration}
use Rattle.flame_nest.proofs.earlier.Earlier.add_messages.Given as goal

abbrev pub invariant-loop-message : goal.invariant-loop-message
invariant-loop-message l =
    l.self ≡ fold with_declaration l.fn.self (map of_message (take l.message-index l.messages))
