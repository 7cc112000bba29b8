use Rattle.std.proofs.Common.{◌∷◌, ◌++◌, ◌∙◌, ap, sym, append_assoc, codes}
use Rattle.flame_popfile.specs.RowTexts.{numbers_text}
use Rattle.flame_popfile.specs.TailTexts.{held}
use Rattle.flame_popfile.proofs.values.put_list.Goals as goal

pub returns : goal.returns
returns c =
    let numbers = numbers_text c.args.numbers.now in
    c.in_ok-put_byte-2.ensures
    ∙ ap (λ l. 91 ∷ l) (c.in_ok-put_numbers.ensures ∙ ap (λ l. numbers ++ l) c.in_ok-put_byte.ensures)
    ∙ ap (λ l. 91 ∷ l) (sym (append_assoc numbers (codes "]") (held c.args.tail.now)))
