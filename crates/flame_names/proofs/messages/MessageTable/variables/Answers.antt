use Rattle.std.proofs.Common.{◌∙◌, sym, ap}
use Rattle.flame_name_sets.specs.NameTables.{look}
use Rattle.flame_name_sets.proofs.Tables.{look-map}
use Rattle.flame_names.proofs.messages.MessageTable.variables.Goals as goal

pub returns : goal.returns
returns c =
    c.get.ensures.value
    ∙ sym (look-map c.args.name.now c.self.inside.messages.entries)
    ∙ ap (look c.args.name.now) c.self.view_is
