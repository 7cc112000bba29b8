use Rattle.std.proofs.Common.{◌≡◌, take, drop, map}
use Rattle.flame_spec.specs.Lists.{each_from}
use Rattle.flame_ops.specs.Ascii.{capitals}
use Rattle.flame_spec.specs.KnownNames.{message_names}
use Rattle.flame_spec.specs.Paths.{at_number}
use Rattle.flame_spec.specs.MessageFaults.{message_faults, messages_faults}
use Rattle.flame_names.specs.PlacePaths.{text_of}
use Rattle.flame_names.specs.NameLooks.{message_entry}
use Rattle.flame_names.proofs.messages.add_messages.Given as goal

abbrev pub invariant-loop-i : goal.invariant-loop-i
invariant-loop-i l = record {
  earlier : l.earlier ≡ message_names (take l.i l.messages);
  shouted : l.shouted ≡ map capitals (message_names (take l.i l.messages));
  known : l.known ≡ map message_entry (take l.i l.messages);
  rest :
      messages_faults (text_of l.place) l.messages
      ≡ each_from
      (λ i message. message_faults (message_names (take i l.messages)) (at_number (text_of l.place) i) message)
      l.i
      (drop l.i l.messages);
}
