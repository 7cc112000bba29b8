use Rattle.std.proofs.Common.{◌≡◌, ◌≤◌, ◌+◌, [], length, map}
use Rattle.std.specs.List.{All}
use Rattle.std.specs.Vec.{vec_capacity}
use Rattle.std.specs.Vec.Iter.{into_iter_items, into_iter_len}
use Rattle.flame_rows.specs.Order.{row_order}
use Rattle.flame_rows.specs.Sorted.{IsAscending}
use Rattle.flame_rows.specs.Bags.{ascending}
use Rattle.flame_pieces.specs.KeptWorks.{work_of, outputs_in}
use Rattle.flame_progress.proofs.Pieces.{given, giving}
use Rattle.flame_progress.proofs.rooms.PieceRooms.fill.Given as goal

abbrev pub invariant-loop-i : goal.invariant-loop-i
invariant-loop-i l = record {
  counted : into_iter_len l.rooms ≡ length (into_iter_items l.rooms);
  count : length l.works.items ≡ length l.fn.self.works.items;
  has : All (λ room. (room.items ≡ []) × (l.size ≤ vec_capacity room)) (into_iter_items l.rooms);
  order : IsAscending row_order (into_iter_items l.rest);
  enough : length l.fn.self.rooms.items ≡ length l.fn.self.works.items → length (into_iter_items l.rooms) + l.i ≡ length l.works.items;
  outputs : map outputs_in l.works.items ≡ map outputs_in l.fn.self.works.items;
  gives : length l.fn.self.rooms.items ≡ length l.fn.self.works.items
      → giving l.i l.size (into_iter_items l.rest) l.works.items
      ≡ given l.size (ascending l.fn.agents.items) (map work_of l.fn.self.works.items);
}
