-- What was put is the text of the variables from a place on.
use Rattle.std.proofs.Common.{◌≡◌, ◌≤◌, ◌++◌, length, take, drop}
use Rattle.std.specs.Prelude.{nat_lt}
use Rattle.flame_spec.specs.Columns.{width}
use Rattle.flame_popfile.specs.RowTexts.{variable_texts}
use Rattle.flame_popfile.specs.CommaTexts.{behind}
use Rattle.flame_popfile.specs.TailTexts.{held}
use Rattle.flame_popfile.proofs.values.put_variables.Given as goal

abbrev pub decreases-loop-left : goal.decreases-loop-left
decreases-loop-left l = l.left

abbrev pub invariant-loop-left : goal.invariant-loop-left
invariant-loop-left l =
    let variables = l.object.variables.now in
    record {
      within : l.left ≤ length variables;
      written :
          held l.tail
          ≡ behind (nat_lt 0 l.left)
          (variable_texts (drop l.left variables) (drop (width (take l.left variables)) l.row))
          ++ held l.fn.tail;
    }
