use Rattle.std.proofs.Common.{◌++◌, ◌∙◌, ap}
use Rattle.flame_popfile.proofs.CommaLists.{commas_more, commas_ended}
use Rattle.flame_popfile.proofs.SharedTexts.{bytes_of}
use Rattle.flame_popfile.proofs.sharing.push_texts.Goals as goal

pub loop-text-preserved : goal.loop-text-preserved
loop-text-preserved c =
    commas_more bytes_of _ _ _ c.loop-text.more c.args.texts.now c.loop-text.text-index
    c.text-item.result c.loop-text-test.true c.text-item.is c.in_ok-push_comma.ensures
    (c.in_ok-extend_from_slice.ensures.items
    ∙ ap (λ text. c.push_comma.new.bytes.items ++ text) c.as_slice.ensures.value)
    ∙ c.loop-text.invariant

pub returns : goal.returns
returns c =
    commas_ended bytes_of _ _ c.loop-text.more c.args.texts.now c.loop-text.text-index
    c.loop-text-test.false c.loop-text.invariant
