use Rattle.std.proofs.Common.{◌++◌, ◌∙◌, codes, ap, append_assoc}
use Rattle.flame_popfile.proofs.pieces.push_name.Goals as goal

pub returns : goal.returns
returns c =
    let before = c.args.bytes.now.items in
    let quote = codes "\"" in
    let end = codes "\":" in
    c.in_ok-push_str-3.ensures
    ∙ ap (λ l. l ++ end) (c.in_ok-push_str-2.ensures ∙ ap (λ l. l ++ c.args.name.now) c.in_ok-push_str.ensures)
    ∙ append_assoc (before ++ quote) c.args.name.now end
    ∙ append_assoc before quote (c.args.name.now ++ end)
