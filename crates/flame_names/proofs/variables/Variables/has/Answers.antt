use Rattle.std.proofs.Common.{◌∙◌, sym, ap}
use Rattle.flame_spec.specs.KnownNames.{is_among, variable_names}
use Rattle.flame_names.proofs.Arrays.{there-is}
use Rattle.flame_names.proofs.variables.Variables.has.Goals as goal

pub returns : goal.returns
returns c =
    c.contains_key.ensures
    ∙ sym (there-is c.args.name.now c.self.inside.lengths.entries)
    ∙ ap (λ variables. is_among c.args.name.now (variable_names variables)) c.self.view_is
