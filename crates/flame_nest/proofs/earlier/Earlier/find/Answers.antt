use Rattle.std.proofs.Common.{◌∙◌, sym, ap, option_map}
use Rattle.flame_name_sets.specs.NameTables.{look}
use Rattle.flame_nest.specs.GivenTables.{shown_agreed}
use Rattle.flame_nest.proofs.Entries.{look-shown}
use Rattle.flame_nest.proofs.earlier.Earlier.find.Goals as goal

pub returns : goal.returns
returns c =
    ap (option_map shown_agreed) (c.copied.ensures ∙ c.get.ensures.value)
    ∙ sym (look-shown c.as_str.result.now shown_agreed c.self.inside.names.entries)
    ∙ ap (look c.as_str.result.now) c.self.view_is
    ∙ ap (λ name. look name c.args.self.now) c.as_str.ensures
