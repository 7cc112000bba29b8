use Rattle.std.proofs.Common.{◌∙◌, ap, map}
use Rattle.flame_nest.specs.GivenTables.{shown_agreed, with_entry}
use Rattle.flame_nest.proofs.Entries.{insert_entry-shown}
use Rattle.flame_nest.proofs.earlier.Earlier.add.Goals as goal

pub returns : goal.returns
returns c =
    let table = c.args.self.now in
    ap (map (λ entry. (entry.0.now, shown_agreed entry.1))) c.in_ok-insert.ensures.entries
    ∙ insert_entry-shown shown_agreed c.as_str.result c.agreed-agreed.result c.self.inside.names.entries
    ∙ ap (with_entry c.as_str.result.now (shown_agreed c.agreed-agreed.result)) c.self.view_is
    ∙ ap (λ name. with_entry name (shown_agreed c.agreed-agreed.result) table) c.as_str.ensures
    ∙ ap (λ agreed. with_entry c.args.name.now agreed table) c.agreed-agreed.ensures
