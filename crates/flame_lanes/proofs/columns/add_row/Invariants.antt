use Rattle.std.proofs.Common.{◌≡◌, ◌++◌, ℕ, map, length}
use Rattle.std.specs.Vec.Iter.{into_iter_items}
use Rattle.flame_board.specs.declared.lanes.Lane.{Lane}
use Rattle.flame_lanes.proofs.Columned.{AreBegun}
use Rattle.flame_lanes.proofs.columns.add_row.Given as goal

abbrev pub invariant-loop-place : goal.invariant-loop-place
invariant-loop-place l = record {
  begun : AreBegun l.fn.columns.items (map (λ (one : ℕ × Lane). one.1) l.yielded) l.columns.items;
  rest : map (λ (one : ℕ × Lane). one.1) l.yielded ++ into_iter_items l.place-iterator.iter ≡ l.fn.row.items;
  count : length (map (λ (one : ℕ × Lane). one.1) l.yielded) ≡ l.place-iterator.count;
}
