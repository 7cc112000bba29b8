use Rattle.std.proofs.Common.{◌++◌, ◌∙◌, ap, w32, SFits, rules}
use Rattle.std.specs.Fmt.{signed_decimal}
use Rattle.std.proofs.lemmas.Int.{to_z-of_z}
use Rattle.flame_popfile.proofs.VariableTexts.{pushed_named}
use Rattle.flame_popfile.proofs.rows.push_constant.Goals as goal

pub returns : goal.returns
returns c =
    let fits : SFits w32 c.args.value.now = search rules in
    pushed_named _ _ _ _ _ c.in_ok-push_name.ensures
    (c.in_ok-push_number.ensures
    ∙ ap (λ number. c.push_name.new.bytes.items ++ signed_decimal number) (to_z-of_z w32 c.args.value.now fits))
