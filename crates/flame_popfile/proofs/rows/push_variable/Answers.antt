use Rattle.std.proofs.Common.{◌++◌, ◌∙◌, refl, ap}
use Rattle.flame_popfile.specs.CommaTexts.{name_text}
use Rattle.flame_popfile.proofs.VariableTexts.{pushed_named, value_taken}
use Rattle.flame_popfile.proofs.rows.push_variable.Goals as goal

pub returns-clause-text : goal.returns-clause-text
returns-clause-text c =
    pushed_named _ _ _ _ _
    (c.in_ok-push_name.ensures ∙ ap (λ name. c.args.bytes.now.items ++ name_text name) c.as_str.ensures)
    (c.in_ok-push_value.ensures
    ∙ ap (λ value. c.push_name.new.bytes.items ++ value)
    (value_taken c.args.variable.now.length c.args.row.now c.first.result.now c.taken-count.result _ refl
    c.taken-count.ensures c.first.ensures))
