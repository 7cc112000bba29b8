use Rattle.std.proofs.Common.{◌∙◌, [], ap, sym, cond}
use Rattle.std.proofs.lemmas.Result.{IfErr-weaker}
use Rattle.flame_spec.proofs.FaultLists.{FailsFirst-behind, FailsFirst-same}
use Rattle.flame_nest.specs.NestFaults.{meant_by, variables_faults}
use Rattle.flame_nest.proofs.Firsts.{where-same}
use Rattle.flame_nest.specs.declared.faults.NestKind.TheVariants.{Differs}
use Rattle.flame_nest.proofs.messages.check_message.Goals as goal

pub returns-clause-first : goal.returns-clause-first
returns-clause-first c =
    let meant = meant_by c.args.kinds.now in
    let file = c.args.file.now in
    let message = c.args.message.now in
    IfErr-weaker
    c.check_variables.result
    _
    _
    (λ fail h.
    FailsFirst-behind
    fail
    _
    _
    (sym (where-same _ _ Differs file message.name c.differs-differs.ensures) ∙ c.in_ok-refuse.ensures.none)
    (FailsFirst-same
    fail
    _
    _
    (ap (variables_faults file meant) c.items.ensures
    ∙ ap (λ b. cond b [] (variables_faults file meant message.variables)) (sym (sym c.has.ensures ∙ c.if-has.false)))
    h))
    c.check_variables.ensures.first
