use mathlib.Core.Bool.{or-false}
use Rattle.std.proofs.Common.{◌∙◌, sym, ap, map, length, nat_lt}
use Rattle.std.specs.Option.{option_copied}
use Rattle.flame_nest.specs.NestFaults.{has_long}
use Rattle.flame_nest.specs.KindTables.{unfolded, flat_inside}
use Rattle.flame_nest.proofs.Unfolding.{unfolded-is}
use Rattle.flame_nest.proofs.kinds.Kinds.has_long.Goals as goal

pub returns-in-Some : goal.returns-in-Some
returns-in-Some c =
    c.are_long_in.ensures
    ∙ ap (λ name. has_long (map (flat_inside name) c.in-Some.fields.now)) c.as_str-name.ensures
    ∙ ap (λ o. has_long (unfolded o c.args.variable.now)) (ap option_copied (sym c.in-Some.is) ∙ c.fields.ensures.found)
    ∙ ap has_long (unfolded-is c.args.self.now c.args.variable.now c.fields.ensures.once)

pub returns-in-None : goal.returns-in-None
returns-in-None c =
    ap (λ name. nat_lt 100 (length name)) c.as_str-name.ensures
    ∙ sym (or-false (nat_lt 100 (length c.args.variable.now.name)))
    ∙ ap (λ o. has_long (unfolded o c.args.variable.now)) (ap option_copied (sym c.in-None.is) ∙ c.fields.ensures.found)
    ∙ ap has_long (unfolded-is c.args.self.now c.args.variable.now c.fields.ensures.once)
