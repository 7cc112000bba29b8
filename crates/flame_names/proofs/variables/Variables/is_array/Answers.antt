use Rattle.std.proofs.Common.{◌∙◌, sym, ap, Some, option_map}
use Rattle.std.specs.Option.{is_some, option_copied}
use Rattle.flame_spec.specs.Columns.{variable_named, is_array}
use Rattle.flame_names.proofs.Arrays.{array-is}
use Rattle.flame_names.proofs.variables.Variables.is_array.Goals as goal

pub returns-in_err-length : goal.returns-in_err-length
returns-in_err-length c =
    let name = c.args.name.now in
    c.from_residual.ensures
    ∙ sym
    (ap (λ variables. option_map (λ found. is_array found.1) (variable_named variables name)) (sym c.self.view_is)
    ∙ array-is name c.self.inside.lengths.entries
    ∙ ap (option_map is_some) (sym c.get.ensures.value ∙ ap option_copied c.in_err-length.was))

pub returns : goal.returns
returns c =
    let name = c.args.name.now in
    ap Some c.is_some.ensures
    ∙ sym
    (ap (λ variables. option_map (λ found. is_array found.1) (variable_named variables name)) (sym c.self.view_is)
    ∙ array-is name c.self.inside.lengths.entries
    ∙ ap (option_map is_some) (sym c.get.ensures.value ∙ ap option_copied c.in_ok-length.was))
