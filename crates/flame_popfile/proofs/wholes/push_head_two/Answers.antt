use Rattle.std.proofs.Common.{◌++◌, ◌∙◌, ap, w32}
use Rattle.std.specs.Fmt.{signed_decimal}
use Rattle.std.proofs.lemmas.Int.{to_z-of_z}
use Rattle.flame_popfile.specs.RowTexts.{numbers_text}
use Rattle.flame_popfile.proofs.Chains.{chain_five}
use Rattle.flame_popfile.proofs.wholes.push_head_two.Goals as goal

pub returns : goal.returns
returns c =
    chain_five _ _ _ _ _ _ _ _ _ _ _ c.in_ok-push_str.ensures
    (c.in_ok-push_number.ensures
    ∙ ap (λ number. c.push_str.new.bytes.items ++ signed_decimal number) (to_z-of_z w32 c.args.itno c.ranges.itno))
    c.in_ok-push_str-2.ensures
    (c.in_ok-push_numbers.ensures
    ∙ ap (λ values. c.push_str-2.new.bytes.items ++ numbers_text values) c.values.ensures)
    c.in_ok-push_str-3.ensures
