use Rattle.std.proofs.Common.{◌∙◌, ap, sym, nat_lt}
use Rattle.std.proofs.lemmas.Result.{err_from_is_err_and}
use Rattle.flame_spec.specs.Columns.{width}
use Rattle.flame_spec.proofs.FaultLists.{FailsFirst-behind, FailsFirst-same}
use Rattle.flame_nest.specs.declared.faults.NestKind.TheVariants.{TooWide}
use Rattle.flame_nest.specs.FlatModels.{flat_variables}
use Rattle.flame_nest.specs.NestFaults.{meant_by, variables_faults, is_wide}
use Rattle.flame_nest.proofs.Firsts.{where-same}
use Rattle.flame_nest.proofs.Measures.{capped-wide}
use Rattle.flame_nest.proofs.types.check_fields.Goals as goal

pub returns-in_err-refuse-clause-first : goal.returns-in_err-refuse-clause-first
returns-in_err-refuse-clause-first c =
    let p = err_from_is_err_and c.from_residual-in_err-refuse.result c.from_residual-in_err-refuse.ensures.1 in
    let file = c.args.file.now in
    let types = c.args.kinds.now in
    let wide = ap (nat_lt 4096) c.width-columns.ensures
    ∙ capped-wide (width (flat_variables types c.items-variables.result.now))
    ∙ ap (λ l. is_wide (flat_variables types l)) c.items-variables.ensures in
    rw
    (p.1, p.2)
    (FailsFirst-behind
    _
    _
    _
    (ap (variables_faults file (meant_by types)) (sym c.items-variables.ensures) ∙ c.in_ok-check_variables.ensures.none)
    (FailsFirst-same _ _ _ (where-same _ _ TooWide file c.args.declared.now.name wide) c.in_err-refuse.ensures.first))
