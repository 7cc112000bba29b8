use Rattle.std.proofs.Common.{◌++◌, ◌∙◌, ap}
use Rattle.flame_popfile.specs.CommaTexts.{form_text}
use Rattle.flame_popfile.proofs.CommaLists.{commas_more, commas_ended}
use Rattle.flame_popfile.proofs.forms.push_few.Goals as goal

pub loop-row-preserved : goal.loop-row-preserved
loop-row-preserved c =
    commas_more (form_text c.args.form) _ _ _ c.loop-row.more c.args.rows.now c.loop-row.row-index
    c.row-item.result c.loop-row-test.true c.row-item.is c.in_ok-push_comma.ensures
    (c.in_ok-push_row.ensures
    ∙ ap (λ row. c.push_comma.new.bytes.items ++ form_text c.args.form row) c.values.ensures)
    ∙ c.loop-row.invariant

pub returns : goal.returns
returns c =
    commas_ended (form_text c.args.form) _ _ c.loop-row.more c.args.rows.now c.loop-row.row-index
    c.loop-row-test.false c.loop-row.invariant
