use Rattle.std.proofs.Common.{◌≡◌, drop}
use Rattle.std.specs.List.{flat_map}
use Rattle.flame_nest.specs.NestFaults.{meant_by, message_faults, messages_faults}
use Rattle.flame_nest.specs.GivenTables.{given_in}
use Rattle.flame_nest.proofs.messages.check_messages.Given as goal

abbrev pub invariant-loop-message : goal.invariant-loop-message
invariant-loop-message l =
    messages_faults l.file (given_in l.earlier) (meant_by l.kinds) l.messages
    ≡ flat_map (message_faults l.file (given_in l.earlier) (meant_by l.kinds)) (drop l.message-index l.messages)
