use Rattle.std.proofs.Common.{◌++◌, ◌∙◌, codes, ap, sym, append_assoc}
use Rattle.flame_popfile.specs.RowTexts.{with_commas, variable_texts}
use Rattle.flame_popfile.specs.TailTexts.{held}
use Rattle.flame_popfile.proofs.values.put_object.Goals as goal

pub returns : goal.returns
returns c =
    let head = c.args.object.now.head.items in
    let variables = with_commas (variable_texts c.args.object.now.variables.now c.args.row.now) in
    let after = held c.args.tail.now in
    c.in_ok-put_bytes.ensures
    ∙ ap (λ l. l ++ held c.put_variables.new.tail) c.as_slice.ensures.value
    ∙ ap (λ l. head ++ l)
    (c.in_ok-put_variables.ensures
    ∙ ap (λ l. variables ++ l) c.in_ok-put_byte.ensures
    ∙ sym (append_assoc variables (codes "}") after))
    ∙ sym (append_assoc head (variables ++ codes "}") after)
