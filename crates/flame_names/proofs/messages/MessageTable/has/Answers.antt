use Rattle.std.proofs.Common.{◌∙◌, sym, ap}
use Rattle.std.specs.Option.{is_some}
use Rattle.flame_rows.proofs.Truths.{is_some-option_copied}
use Rattle.flame_name_sets.proofs.Tables.{is_some-look}
use Rattle.flame_names.proofs.messages.MessageTable.has.Goals as goal

pub returns : goal.returns
returns c =
    c.is_some.ensures
    ∙ sym (is_some-option_copied c.variables.result)
    ∙ ap is_some c.variables.ensures
    ∙ is_some-look c.args.name.now c.args.self.now
