use Rattle.std.proofs.Common.{◌≡◌, ◌≤◌, ◌++◌, length}
use Rattle.std.specs.Vec.{vec_len, vec_capacity}
use Rattle.std.specs.Vec.Iter.{into_iter_items}
use Rattle.flame_progress.proofs.rooms.next_run.Given as goal

abbrev pub invariant-loop-row : goal.invariant-loop-row
invariant-loop-row l = record {
  all : into_iter_items l.initial.rest ≡ l.run.items ++ into_iter_items l.rest;
  count : length l.run.items ≡ l._row;
  long : vec_len l.run ≡ l._row;
  room : l.most ≤ vec_capacity l.run;
}
