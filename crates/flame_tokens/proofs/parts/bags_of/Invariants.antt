-- The bags so far, and those of the rows that are left.
use Rattle.std.proofs.Common.{◌≡◌, ◌++◌, List, length, map}
use Rattle.std.specs.Prelude.{ℤ, Vec}
use Rattle.std.specs.Global.{Global}
use Rattle.std.specs.Vec.Iter.{into_iter_items, into_iter_len}
use Rattle.flame_rows.specs.Bags.{ascending}
use Rattle.flame_rows.specs.RowVectors.{bags_of}
use Rattle.flame_tokens.proofs.parts.bags_of.Given as goal

abbrev pub invariant-loop-rows : goal.invariant-loop-rows
invariant-loop-rows l = record {
  counted : into_iter_len l.rows-iterator ≡ length (into_iter_items l.rows-iterator);
  all :
      bags_of l.fn.dealt
      ≡ l.bags.items
      ++ map (λ (rows : Vec (List ℤ) Global). ascending rows.items) (into_iter_items l.rows-iterator);
}
