use Rattle.std.proofs.Common.{◌≡◌, take, drop}
use Rattle.flame_spec.specs.Columns.{width, columned_where, columned_from}
use Rattle.flame_sense.specs.StandsFor.{is_written, within_reach}
use Rattle.flame_sense.proofs.words.span_where.Given as goal

abbrev pub invariant-loop-variable : goal.invariant-loop-variable
invariant-loop-variable l = record {
  column : l.column ≡ within_reach (width (take l.variable-index l.variables));
  rest : columned_where (λ variable. is_written l.form l.word variable.name) l.variables
      ≡ columned_from (λ variable. is_written l.form l.word variable.name) (width (take l.variable-index l.variables))
      (drop l.variable-index l.variables);
}
