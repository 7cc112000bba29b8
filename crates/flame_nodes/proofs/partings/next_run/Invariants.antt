use Rattle.std.proofs.Common.{◌≡◌, ◌++◌, length}
use Rattle.std.specs.Vec.Iter.{into_iter_items}
use Rattle.flame_nodes.proofs.partings.next_run.Given as goal

abbrev pub invariant-loop-row : goal.invariant-loop-row
invariant-loop-row l = record {
  whole : into_iter_items l.initial.rest ≡ l.run.items ++ into_iter_items l.rest;
  long : length l.run.items ≡ l._row;
}
