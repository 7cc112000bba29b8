use Rattle.std.proofs.Common.{ℕ, List, ◌++◌, ◌∙◌, map, refl, ap}
use Rattle.std.specs.Prelude.{ℤ}
use Rattle.std.specs.Fmt.{signed_decimal}
use Rattle.flame_popfile.specs.RowTexts.{constant_texts, named_text}
use Rattle.std.proofs.lemmas.Slice.Zip.{either_empty_from_Zip}
use Rattle.flame_popfile.proofs.CommaLists.{pairs_more, pairs_all}
use Rattle.flame_popfile.proofs.rows.push_constants.Goals as goal

abbrev text_of : List ℕ × ℤ → List ℕ
text_of (name, value) = named_text name (signed_decimal value)

pub loop-name-preserved : goal.loop-name-preserved
loop-name-preserved c =
    pairs_more text_of _ _ _ c.loop-name.more _ _ _ _ c.in-Some.name.now c.in-Some.value.now
    c.in-Some.ensures.steps.0 c.in-Some.ensures.steps.1 c.in_ok-push_comma.ensures
    (c.in_ok-push_constant.ensures
    ∙ ap (λ name. c.push_comma.new.bytes.items ++ named_text name (signed_decimal c.in-Some.value.now)) c.as_str.ensures)
    ∙ c.loop-name.invariant

pub returns : goal.returns
returns c =
    pairs_all (map text_of) c.args.bytes.now.items c.loop-name.bytes.items c.loop-name.more _ _
    (constant_texts c.args.names.now c.args.values.now) refl
    (either_empty_from_Zip c.loop-name.name-iterator c.next.new.self _ c.in-None.is c.next.ensures.steps)
    c.loop-name.invariant
