use Rattle.std.proofs.Common.{◌∙◌, sym, ap}
use Rattle.std.specs.Option.{option_copied}
use Rattle.flame_spec.specs.Columns.{width}
use Rattle.flame_nest.specs.KindTables.{unfolded}
use Rattle.flame_nest.proofs.Measures.{width-inside}
use Rattle.flame_nest.proofs.Unfolding.{unfolded-is}
use Rattle.flame_nest.proofs.kinds.Kinds.variable_width.Goals as goal

pub returns-in-Some : goal.returns-in-Some
returns-in-Some c =
    c.width.ensures
    ∙ sym (width-inside c.args.variable.now.name c.in-Some.fields.now)
    ∙ ap (λ o. width (unfolded o c.args.variable.now)) (ap option_copied (sym c.in-Some.is) ∙ c.fields.ensures.found)
    ∙ ap width (unfolded-is c.args.self.now c.args.variable.now c.fields.ensures.once)

pub returns-in-None : goal.returns-in-None
returns-in-None c =
    c.single_width.ensures
    ∙ ap (λ o. width (unfolded o c.args.variable.now)) (ap option_copied (sym c.in-None.is) ∙ c.fields.ensures.found)
    ∙ ap width (unfolded-is c.args.self.now c.args.variable.now c.fields.ensures.once)
