use Rattle.std.proofs.Common.{◌∙◌, sym, ap}
use Rattle.flame_name_sets.specs.NameTables.{look}
use Rattle.flame_name_sets.proofs.Tables.{look-map}
use Rattle.flame_names.proofs.lengths.Lengths.of.Goals as goal

pub returns : goal.returns
returns c =
    c.copied.ensures
    ∙ c.get.ensures.value
    ∙ sym (look-map c.args.name.now c.self.inside.lengths.entries)
    ∙ ap (look c.args.name.now) c.self.view_is
