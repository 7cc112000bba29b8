-- What was written, and the rows that are left, make up the whole.
use Rattle.std.proofs.Common.{◌≡◌, ◌++◌, length, map}
use Rattle.flame_popfile.specs.CommaTexts.{behind}
use Rattle.flame_popfile.specs.ShapeTexts.{shape_text}
use Rattle.flame_popfile.proofs.shapes.push_blocks.Given as goal

abbrev pub decreases-loop-rest : goal.decreases-loop-rest
decreases-loop-rest l = length l.rest

abbrev pub invariant-loop-rest : goal.invariant-loop-rest
invariant-loop-rest l =
    l.bytes.items ++ behind l.more (map (shape_text l.shape) l.rest)
    ≡ l.fn.bytes.items ++ behind l.before (map (shape_text l.shape) l.rows)
