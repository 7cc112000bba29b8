use Rattle.std.proofs.Common.{◌∙◌, ap, sym, arith}
use Rattle.flame_spec.proofs.VariableWidths.{width_more}
use Rattle.flame_sense.specs.StandsFor.{is_written}
use Rattle.flame_sense.proofs.Widths.{next_found}
use Rattle.flame_sense.proofs.words.span_where.Goals as goal

pub loop-variable-preserved : goal.loop-variable-preserved
loop-variable-preserved c =
    let more = width_more c.args.variables.now c.loop-variable.variable-index c.variable-item.result c.loop-variable-test.true c.variable-item.is in
    record {
      column = omega (arith, more, c.saturating_add-column.ensures, c.width.ensures, c.loop-variable.invariant.column);
      rest = c.loop-variable.invariant.rest
          ∙ next_found (λ variable. is_written c.args.form c.args.word.now variable.name) c.args.variables.now c.loop-variable.variable-index
          c.variable-item.result c.loop-variable-test.true c.variable-item.is
          (ap (is_written c.args.form c.args.word.now) (sym c.as_str.ensures) ∙ sym c.is_written.ensures ∙ c.if-is_written.false);
    }
