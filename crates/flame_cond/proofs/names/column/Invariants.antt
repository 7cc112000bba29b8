use Rattle.std.proofs.Common.{◌≡◌, ◌+◌, drop}
use Rattle.flame_spec.specs.Columns.{column, width}
use Rattle.flame_cond.proofs.names.column.Given as goal

abbrev pub invariant-loop-variable : goal.invariant-loop-variable
invariant-loop-variable l = record {
  before : width l.variables ≡ l.at + width (drop l.variable-index l.variables);
  rest : column l.name l.variables ≡ l.at + column l.name (drop l.variable-index l.variables);
}
