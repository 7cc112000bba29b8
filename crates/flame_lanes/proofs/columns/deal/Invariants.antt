use Rattle.std.proofs.Common.{◌≡◌, length}
use Rattle.flame_lanes.proofs.Columned.{AreBegun}
use Rattle.flame_lanes.proofs.columns.deal.Given as goal

abbrev pub invariant-loop-place : goal.invariant-loop-place
invariant-loop-place l = record {
  begun : AreBegun l.columns.items l.row.items l.fn.columns.items;
  long : length l.row.items ≡ l.place;
}
