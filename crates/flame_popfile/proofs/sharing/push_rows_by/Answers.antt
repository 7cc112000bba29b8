use Rattle.std.proofs.Common.{◌++◌, ◌∙◌, ap, map}
use Rattle.std.proofs.lemmas.Result.{on_ok_weaker}
use Rattle.flame_popfile.specs.CommaTexts.{behind}
use Rattle.flame_popfile.proofs.SharedTexts.{bytes_of, texts-whole}
use Rattle.flame_popfile.proofs.sharing.push_rows_by.Goals as goal

pub returns : goal.returns
returns g c =
    on_ok_weaker c.push_texts.result
    (λ e.
    e
    ∙ ap (λ texts. c.args.bytes.now.items ++ behind c.args.before (map bytes_of texts)) c.as_slice.ensures.value
    ∙ ap (λ text. c.args.bytes.now.items ++ text)
    (texts-whole c.args.form c.in-Some.size c.args.before c.args.rows.now c.in_ok-results.results.items
    c.in_ok-texts.texts.items c.in-Some.ensures c.in_ok-results.ensures c.in_ok-texts.ensures))
    c.push_texts.ensures
