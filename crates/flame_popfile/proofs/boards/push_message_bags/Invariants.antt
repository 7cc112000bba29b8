-- What was written, and the bags that are left, make up the whole.
use Rattle.std.proofs.Common.{◌≡◌, ◌++◌, map, false}
use Rattle.std.specs.Iterator.Adapters.{zip_first, zip_second}
use Rattle.std.specs.Slice.Iter.{iter_rest}
use Rattle.flame_spec.specs.declared.models.MessageType.{MessageType}
use Rattle.flame_popfile.specs.RowTexts.{bag_texts}
use Rattle.flame_popfile.specs.CommaTexts.{behind}
use Rattle.flame_popfile.proofs.boards.push_message_bags.Given as goal

abbrev pub invariant-loop-message : goal.invariant-loop-message
invariant-loop-message g l =
    l.bytes.items
    ++ behind l.more
    (bag_texts (map (λ (message : MessageType). message.name) (iter_rest (zip_first l.message-iterator)))
    (iter_rest (zip_second l.message-iterator)))
    ≡ l.fn.bytes.items ++ behind false (bag_texts (map (λ (message : MessageType). message.name) l.messages) l.bags)
