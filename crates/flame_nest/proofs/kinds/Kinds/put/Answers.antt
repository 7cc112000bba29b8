use Rattle.std.proofs.Common.{◌∙◌, sym, ap, ◌++◌, ◌∷◌, [], map}
use Rattle.std.specs.Option.{option_copied}
use Rattle.std.proofs.lemmas.Result.{on_ok_weaker}
use Rattle.flame_nest.specs.KindTables.{unfolded, flat_inside}
use Rattle.flame_nest.proofs.Unfolding.{unfolded-is}
use Rattle.flame_nest.proofs.kinds.Kinds.put.Goals as goal

pub returns-in-Some : goal.returns-in-Some
returns-in-Some c =
    let flat =
    ap (λ o. unfolded o c.args.variable.now) (ap option_copied (sym c.in-Some.is) ∙ c.fields.ensures.found)
    ∙ unfolded-is c.args.self.now c.args.variable.now c.fields.ensures.once in
    on_ok_weaker
    c.put_inside.result
    (λ e. e ∙ ap (λ l. c.args.flat.now.items ++ l) (ap (λ name. map (flat_inside name) c.in-Some.fields.now) c.as_str.ensures ∙ flat))
    c.put_inside.ensures

pub returns-in_ok-push-in-None : goal.returns-in_ok-push-in-None
returns-in_ok-push-in-None c =
    let flat =
    ap (λ o. unfolded o c.args.variable.now) (ap option_copied (sym c.in-None.is) ∙ c.fields.ensures.found)
    ∙ unfolded-is c.args.self.now c.args.variable.now c.fields.ensures.once in
    c.in_ok-push-in-None.ensures.items
    ∙ ap (λ v. c.args.flat.now.items ++ v ∷ []) c.in_ok-single-in-None.ensures
    ∙ ap (λ l. c.args.flat.now.items ++ l) flat
