use Rattle.std.proofs.Common.{◌≡◌, ◌<◌, length, map}
use Rattle.std.specs.List.{All}
use Rattle.std.specs.Vec.Iter.{into_iter_items, into_iter_len}
use Rattle.flame_spec.specs.declared.outcomes.Sent.{Sent}
use Rattle.flame_world.specs.AgentRuns.{messages_of}
use Rattle.flame_world.specs.Fields.{joined}
use Rattle.flame_field.specs.KeptBoards.{board_bag}
use Rattle.flame_field.proofs.fields.send.Given as goal

abbrev pub invariant-loop-message : goal.invariant-loop-message
invariant-loop-message l = record {
  counted : into_iter_len l.message-iterator ≡ length (into_iter_items l.message-iterator);
  count : length l.boards.items ≡ length l.fn.boards.items;
  within : All (λ (message : Sent). message.message < length l.fn.boards.items) (into_iter_items l.message-iterator);
  joins : joined (messages_of (into_iter_items l.message-iterator)) (map board_bag l.boards.items)
      ≡ joined (messages_of l.fn.sent.items) (map board_bag l.fn.boards.items);
}
