use Rattle.std.proofs.Common.{◌≡◌, ◌-◌, ◌≤◌, length, drop}
use Rattle.std.specs.Vec.Iter.{into_iter_items, into_iter_len}
use Rattle.flame_lanes.proofs.GainLists.{AreGained}
use Rattle.flame_lanes.proofs.gains.gain_all.Given as goal

abbrev pub invariant-loop-left : goal.invariant-loop-left
invariant-loop-left l = record {
  counted : into_iter_len l.left-iterator ≡ length (into_iter_items l.left-iterator);
  fewer : length (into_iter_items l.left-iterator) ≤ length l.fn.lefts.items;
  rest : into_iter_items l.left-iterator
      ≡ drop (length l.fn.lefts.items - length (into_iter_items l.left-iterator)) l.fn.lefts.items;
  long : length l.gains.items ≡ l.fn.functions;
  gained : AreGained l.fn.lefts.items l.gains.items (length l.fn.lefts.items - length (into_iter_items l.left-iterator));
}
