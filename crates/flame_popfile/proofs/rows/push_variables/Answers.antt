use Rattle.std.proofs.Common.{◌++◌, ◌∙◌, ap, drop, length}
use Rattle.std.specs.Prelude.{min}
use Rattle.flame_spec.specs.Columns.{width_of}
use Rattle.flame_popfile.specs.RowTexts.{named_text, value_text}
use Rattle.flame_popfile.proofs.VariableTexts.{within_row, variables_more, variables_all}
use Rattle.flame_popfile.proofs.rows.push_variables.Goals as goal

pub loop-variable-preserved : goal.loop-variable-preserved
loop-variable-preserved c =
    let variable = c.variable-item.result in
    let taken =
    c.in_ok-count.ensures.taken ∙ ap (λ left. min (width_of variable) (length left)) c.left.ensures in
    record {
      within =
          within_row c.args.row.now c.loop-variable.at (width_of variable) c.in_ok-count.count
          c.loop-variable.invariant.within taken;
      written =
          variables_more _ _ _ c.loop-variable.more c.args.variables.now c.loop-variable.variable-index variable
          c.args.row.now c.loop-variable.at c.in_ok-count.count c.loop-variable-test.true c.variable-item.is
          taken c.in_ok-push_comma.ensures
          (c.in_ok-count.ensures.text
          ∙ ap (λ left. c.push_comma.new.bytes.items ++ named_text variable.name (value_text variable.length left))
          c.left.ensures)
          ∙ c.loop-variable.invariant.written;
    }

pub returns : goal.returns
returns c =
    variables_all _ _ c.loop-variable.more c.args.variables.now c.loop-variable.variable-index c.args.row.now
    (drop c.loop-variable.at c.args.row.now) c.loop-variable-test.false c.loop-variable.invariant.written
