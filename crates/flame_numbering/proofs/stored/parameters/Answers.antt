use Rattle.std.proofs.Common.{◌++◌, ◌∙◌, ◌+◌, ap, sym, drop}
use Rattle.std.proofs.lemmas.Result.{err_from_is_err_and}
use Rattle.flame_spec.specs.Scopes.{after_name}
use Rattle.flame_spec.specs.StatementFaults.{declared_faults, parameters_faults}
use Rattle.flame_spec.proofs.FaultLists.{FailsFirst-front}
use Rattle.flame_lookup.specs.Sources.{context_at}
use Rattle.flame_numbering.proofs.Rests.{rest-next}
use Rattle.flame_numbering.proofs.stored.parameters.Goals as goal

pub returns-in_err-fresh-clause-first : goal.returns-in_err-fresh-clause-first
returns-in_err-fresh-clause-first c =
    let p = err_from_is_err_and c.from_residual.result c.from_residual.ensures.1 in
    let context = context_at c.args.words.now in
    let sight = c.loop-parameter.spot in
    let i = c.loop-parameter.parameter-index in
    let all = c.args.parameters.now in
    let one = c.parameter-item.result in
    let rest = parameters_faults context (after_name sight one.name) (drop (i + 1) all) in
    rw (p.1, p.2)
    (FailsFirst-front
    _
    (parameters_faults context c.args.spot.now all)
    (declared_faults context sight one.line c.as_str-name.result.now)
    rest
    (c.loop-parameter.invariant.clean
    ∙ rest-next (λ l. parameters_faults context sight l) all i one c.loop-parameter-test.true c.parameter-item.is
    ∙ ap (λ w. declared_faults context sight one.line w ++ rest) (sym c.as_str-name.ensures))
    c.in_err-fresh.ensures.first)
