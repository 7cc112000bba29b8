use Rattle.std.proofs.Common.{◌≡◌, [], Some, map, take}
use Rattle.flame_pieces.specs.KeptWorks.{part_of, messages_in}
use Rattle.flame_pieces.proofs.works.outputs_of.Given as goal

abbrev pub invariant-loop-message : goal.invariant-loop-message
invariant-loop-message l = record {
  parts : map part_of l.outputs.items ≡ map (λ message. Some []) (take l.message-index l.messages);
  messages : messages_in l.outputs.items ≡ take l.message-index l.messages;
}
