use Rattle.std.proofs.Common.{◌∙◌, sym, ap, option_map, not, Some}
use Rattle.flame_nest.specs.GivenTables.{shown_agreed, differs_from}
use Rattle.flame_nest.proofs.earlier.Earlier.differs.Goals as goal

pub returns-in-None : goal.returns-in-None
returns-in-None c =
    ap (differs_from c.args.variables.now) (ap (option_map shown_agreed) (sym c.in-None.is) ∙ c.find.ensures)

pub returns-in-Some-None : goal.returns-in-Some-None
returns-in-Some-None c =
    ap (differs_from c.args.variables.now) (ap (option_map shown_agreed) (sym (c.in-Some-None.is ∙ ap Some c.in-Some-None.field-0-is)) ∙ c.find.ensures)

pub returns-in-Some-Some : goal.returns-in-Some-Some
returns-in-Some-Some c =
    ap not c.are_alike.ensures
    ∙ ap (differs_from c.args.variables.now) (ap (option_map shown_agreed) (sym (c.in-Some-Some.is ∙ ap Some c.in-Some-Some.field-0-is)) ∙ c.find.ensures)
