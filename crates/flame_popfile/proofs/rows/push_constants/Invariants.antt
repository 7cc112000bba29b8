-- What was written, and the constants that are left, make up the whole.
use Rattle.std.proofs.Common.{◌≡◌, ◌++◌, false}
use Rattle.std.specs.Iterator.Adapters.{zip_first, zip_second}
use Rattle.std.specs.Slice.Iter.{iter_rest}
use Rattle.flame_popfile.specs.RowTexts.{constant_texts}
use Rattle.flame_popfile.specs.CommaTexts.{behind}
use Rattle.flame_popfile.proofs.rows.push_constants.Given as goal

abbrev pub invariant-loop-name : goal.invariant-loop-name
invariant-loop-name l =
    l.bytes.items
    ++ behind l.more
    (constant_texts (iter_rest (zip_first l.name-iterator)) (iter_rest (zip_second l.name-iterator)))
    ≡ l.fn.bytes.items ++ behind false (constant_texts l.names l.values)
