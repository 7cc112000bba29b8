use Rattle.std.proofs.Common.{◌∙◌, sym, ap, option_map, cond, Some, None}
use Rattle.flame_nest.specs.GivenTables.{shown_agreed, agreed_with}
use Rattle.flame_nest.proofs.earlier.Earlier.agreed.Goals as goal

pub returns-in-None : goal.returns-in-None
returns-in-None c =
    ap (agreed_with c.args.variables.now) (ap (option_map shown_agreed) (sym c.in-None.is) ∙ c.find.ensures)

pub returns-in-Some-None : goal.returns-in-Some-None
returns-in-Some-None c =
    ap (agreed_with c.args.variables.now) (ap (option_map shown_agreed) (sym (c.in-Some-None.is ∙ ap Some c.in-Some-None.field-0-is)) ∙ c.find.ensures)

pub returns-then-are_alike : goal.returns-then-are_alike
returns-then-are_alike c =
    ap (λ b. cond b (Some c.in-Some-Some.agreed.now) None) (sym c.if-are_alike.true ∙ c.are_alike.ensures)
    ∙ ap (agreed_with c.args.variables.now) (ap (option_map shown_agreed) (sym (c.in-Some-Some.is ∙ ap Some c.in-Some-Some.field-0-is)) ∙ c.find.ensures)

pub returns-else-are_alike : goal.returns-else-are_alike
returns-else-are_alike c =
    ap (λ b. cond b (Some c.in-Some-Some.agreed.now) None) (sym c.if-are_alike.false ∙ c.are_alike.ensures)
    ∙ ap (agreed_with c.args.variables.now) (ap (option_map shown_agreed) (sym (c.in-Some-Some.is ∙ ap Some c.in-Some-Some.field-0-is)) ∙ c.find.ensures)
