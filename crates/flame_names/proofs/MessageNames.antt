-- The names of messages in their table.
use Rattle.std.proofs.Common.{◌≡◌, List, [], ◌∷◌, map, refl, ap}
use Rattle.flame_spec.specs.declared.models.MessageType.{MessageType}
use Rattle.flame_spec.specs.KnownNames.{message_names}
use Rattle.flame_name_sets.specs.NameTables.{names_of}
use Rattle.flame_names.specs.NameLooks.{message_entry}

pub names_of-messages : (messages : List MessageType) → names_of (map message_entry messages) ≡ message_names messages
names_of-messages [] = refl
names_of-messages (message ∷ messages) = ap (λ names. message.name ∷ names) (names_of-messages messages)
