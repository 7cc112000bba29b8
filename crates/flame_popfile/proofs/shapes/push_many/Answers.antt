use Rattle.std.proofs.Common.{◌++◌, ◌∙◌, ap}
use Rattle.flame_popfile.specs.CommaTexts.{behind, form_text}
use Rattle.flame_popfile.specs.ShapeTexts.{shape_text}
use Rattle.flame_popfile.proofs.TailLists.{same_texts}
use Rattle.flame_popfile.proofs.shapes.push_many.Goals as goal

pub returns : goal.returns
returns c =
    c.in_ok-push_blocks.ensures
    ∙ ap (λ texts. c.args.bytes.now.items ++ behind c.args.before texts)
    (same_texts (shape_text c.in_ok-shape.shape) (form_text c.args.form) c.in_ok-shape.ensures c.args.rows.now)
