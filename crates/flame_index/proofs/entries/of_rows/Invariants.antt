use Rattle.std.proofs.Common.{◌≡◌, map, take}
use Rattle.flame_index.specs.Indexes.{entries_from}
use Rattle.flame_index.specs.IndexBodies.{entry_of}
use Rattle.flame_index.proofs.entries.of_rows.Given as goal

abbrev pub invariant-loop-place : goal.invariant-loop-place
invariant-loop-place l = map entry_of l.pairs.items ≡ entries_from l.column 0 (take l.place l.rows)
