use Rattle.std.proofs.Common.{◌≡◌, ◌≤◌, ◌*◌, drop}
use Rattle.std.specs.Str.{bytes_eq}
use Rattle.flame_spec.specs.Columns.{columned_from, variable_named}
use Rattle.flame_nodes.proofs.columns.single_column.Given as goal

abbrev pub invariant-loop-variable : goal.invariant-loop-variable
invariant-loop-variable l = record {
  small : l.column ≤ 4294967295 * l.variable-index;
  rest : columned_from (λ variable. bytes_eq variable.name l.name) l.column (drop l.variable-index l.variables)
      ≡ variable_named l.variables l.name;
}
