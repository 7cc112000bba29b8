use Rattle.std.proofs.Common.{◌++◌, ◌∙◌, codes, ap, sym, append_assoc}
use Rattle.flame_popfile.specs.TailTexts.{held}
use Rattle.flame_popfile.specs.ObjectTexts.{written_object}
use Rattle.flame_popfile.proofs.shapes.put_agent.Goals as goal

pub returns : goal.returns
returns c =
    let object = written_object c.args.object.now c.args.row.now in
    c.in_ok-put_object.ensures
    ∙ ap (λ l. object ++ l) c.in_ok-put_byte.ensures
    ∙ sym (append_assoc object (codes "}") (held c.args.tail.now))
