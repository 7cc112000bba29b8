use Rattle.std.proofs.Common.{◌≡◌, length, map, drop}
use Rattle.std.specs.List.{AllZip}
use Rattle.std.specs.Vec.Iter.{into_iter_items, into_iter_len}
use Rattle.flame_pieces.specs.KeptWorks.{part_of, messages_in, with_lists}
use Rattle.flame_pieces.proofs.Rooms.{Fits, items_of, joining}
use Rattle.flame_pieces.proofs.works.put_parts.Given as goal

abbrev pub invariant-loop-i : goal.invariant-loop-i
invariant-loop-i l = record {
  counted : into_iter_len l.parts ≡ length (into_iter_items l.parts);
  messages : messages_in l.outputs ≡ messages_in l.initial.outputs;
  fits : AllZip Fits (into_iter_items l.parts) (drop l.i l.outputs);
  joins : joining l.i (into_iter_items l.parts) l.outputs ≡ with_lists (map items_of l.fn.parts.items) (map part_of l.fn.outputs);
}
