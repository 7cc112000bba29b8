-- What was put is the text of the rows from a place on.
use Rattle.std.proofs.Common.{◌≡◌, ◌≤◌, ◌||◌, ◌++◌, length, map, drop}
use Rattle.std.specs.Prelude.{nat_lt}
use Rattle.flame_popfile.specs.CommaTexts.{behind}
use Rattle.flame_popfile.specs.TailTexts.{held}
use Rattle.flame_popfile.specs.ShapeTexts.{shape_text}
use Rattle.flame_popfile.proofs.shapes.put_rows.Given as goal

abbrev pub decreases-loop-left : goal.decreases-loop-left
decreases-loop-left l = l.left

abbrev pub invariant-loop-left : goal.invariant-loop-left
invariant-loop-left l = record {
  within : l.left ≤ length l.rows;
  written :
      held l.tail
      ≡ behind (l.more || nat_lt 0 l.left) (map (shape_text l.shape) (drop l.left l.rows)) ++ held l.fn.tail;
}
