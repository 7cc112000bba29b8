use Rattle.std.proofs.Common.{◌≡◌, map, take}
use Rattle.flame_lookup.proofs.lists.fields_of.Given as goal

abbrev pub invariant-loop-message : goal.invariant-loop-message
invariant-loop-message l = l.fields.items ≡ map (λ message. message.variables) (take l.message-index l.messages)
