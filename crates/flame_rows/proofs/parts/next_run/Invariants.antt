use Rattle.std.proofs.Common.{◌≡◌, ◌++◌, length}
use Rattle.std.specs.Vec.Iter.{into_iter_items}
use Rattle.flame_rows.proofs.parts.next_run.Given as goal

abbrev pub invariant-loop-row : goal.invariant-loop-row
invariant-loop-row l =
    (into_iter_items l.initial.rest ≡ l.run ++ into_iter_items l.rest) × (length l.run ≡ l._row)
