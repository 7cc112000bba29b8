use Rattle.std.proofs.Common.{◌++◌, ◌∙◌, get_or, pos, ap, w32, SFits, rules}
use Rattle.std.specs.Fmt.{signed_decimal}
use Rattle.std.proofs.lemmas.Int.{to_z-of_z}
use Rattle.flame_popfile.proofs.CommaLists.{numbers_more, commas_all}
use Rattle.flame_popfile.proofs.rows.push_numbers.Goals as goal

pub loop-number-preserved : goal.loop-number-preserved
loop-number-preserved c =
    let number = get_or c.args.numbers.now c.loop-number.number-index (pos 0) in
    let fits : SFits w32 number = search rules in
    numbers_more _ _ _ c.loop-number.more c.args.numbers.now c.loop-number.number-index c.loop-number-test.true
    c.in_ok-push_comma.ensures
    (c.in_ok-push_number.ensures
    ∙ ap (λ number. c.push_comma.new.bytes.items ++ signed_decimal number) (to_z-of_z w32 number fits))
    ∙ c.loop-number.invariant

pub returns : goal.returns
returns c =
    commas_all signed_decimal _ _ c.loop-number.more c.args.numbers.now c.loop-number.number-index
    c.loop-number-test.false c.loop-number.invariant
