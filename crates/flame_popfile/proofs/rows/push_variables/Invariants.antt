-- What was written, and the variables that are left with the numbers that are left, make up the whole.
use Rattle.std.proofs.Common.{◌≡◌, ◌≤◌, ◌++◌, length, drop, false}
use Rattle.flame_popfile.specs.RowTexts.{variable_texts}
use Rattle.flame_popfile.specs.CommaTexts.{behind}
use Rattle.flame_popfile.proofs.rows.push_variables.Given as goal

abbrev pub invariant-loop-variable : goal.invariant-loop-variable
invariant-loop-variable l = record {
  within : l.at ≤ length l.row;
  written :
      l.bytes.items ++ behind l.more (variable_texts (drop l.variable-index l.variables) (drop l.at l.row))
      ≡ l.fn.bytes.items ++ behind false (variable_texts l.variables l.row);
}
