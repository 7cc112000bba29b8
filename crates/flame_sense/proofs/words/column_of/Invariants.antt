use Rattle.std.proofs.Common.{◌≡◌, ◌≤◌, drop}
use Rattle.flame_spec.specs.Columns.{column}
use Rattle.flame_sense.specs.StandsFor.{within_reach}
use Rattle.flame_sense.proofs.Widths.{named_behind}
use Rattle.flame_sense.proofs.words.column_of.Given as goal

abbrev pub invariant-loop-variable : goal.invariant-loop-variable
invariant-loop-variable l = record {
  column : within_reach (column l.name l.variables) ≡ named_behind l.name l.at (drop l.variable-index l.variables);
  fits : l.at ≤ 18446744073709551615;
}
