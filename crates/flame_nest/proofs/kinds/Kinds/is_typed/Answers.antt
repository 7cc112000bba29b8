use Rattle.std.proofs.Common.{◌∙◌, sym, ap, nat_lt}
use Rattle.std.specs.Option.{option_copied, is_some}
use Rattle.flame_nest.specs.NestFaults.{is_wide}
use Rattle.flame_nest.specs.KindTables.{unfolded}
use Rattle.flame_nest.proofs.Measures.{width-inside}
use Rattle.flame_nest.proofs.Unfolding.{unfolded-is, is_some-table}
use Rattle.flame_nest.proofs.kinds.Kinds.is_typed.Goals as goal

pub returns-in-Some-clause-typed : goal.returns-in-Some-clause-typed
returns-in-Some-clause-typed c =
    ap is_some (ap option_copied (sym c.in-Some.is) ∙ c.fields.ensures.found)
    ∙ is_some-table c.args.self.now c.args.variable.now.kind

pub returns-in-None-clause-typed : goal.returns-in-None-clause-typed
returns-in-None-clause-typed c =
    ap is_some (ap option_copied (sym c.in-None.is) ∙ c.fields.ensures.found)
    ∙ is_some-table c.args.self.now c.args.variable.now.kind

pub returns-in-Some-clause-narrow : goal.returns-in-Some-clause-narrow
returns-in-Some-clause-narrow c =
    ap
    is_wide
    (sym (unfolded-is c.args.self.now c.args.variable.now c.fields.ensures.once)
    ∙ ap (λ o. unfolded o c.args.variable.now) (sym (ap option_copied (sym c.in-Some.is) ∙ c.fields.ensures.found)))
    ∙ ap (nat_lt 4096) (width-inside c.args.variable.now.name c.in-Some._fields.now)
    ∙ c.in-Some.ensures.narrow
