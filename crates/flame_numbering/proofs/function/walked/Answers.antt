use Rattle.std.proofs.Common.{◌++◌, ◌∙◌, ap, sym}
use Rattle.std.proofs.lemmas.Result.{err_from_is_err_and}
use Rattle.flame_spec.specs.CheckFaults.{definition_faults}
use Rattle.flame_spec.specs.Scopes.{after_parameters, at_entry}
use Rattle.flame_spec.specs.StatementFaults.{parameters_faults, statements_faults}
use Rattle.flame_spec.proofs.FaultLists.{FailsFirst-front}
use Rattle.flame_lookup.specs.Sources.{context_at}
use Rattle.flame_lookup.specs.WordsFound.{definition_found}
use Rattle.flame_numbering.proofs.function.walked.Goals as goal

pub returns-in_err-parameters-clause-first : goal.returns-in_err-parameters-clause-first
returns-in_err-parameters-clause-first c =
    let p = err_from_is_err_and c.from_residual.result c.from_residual.ensures.1 in
    let context = context_at c.args.words.now in
    let d = definition_found c.args.function.now in
    let given = c.items.result.now in
    let rest = statements_faults context (after_parameters at_entry d.parameters) d.body in
    rw (p.1, p.2)
    (FailsFirst-front
    _
    (definition_faults context d)
    (parameters_faults context c.args.spot.now given)
    rest
    (ap (λ ps. parameters_faults context at_entry ps ++ rest) (sym c.items.ensures)
    ∙ ap (λ x. parameters_faults context x given ++ rest) (sym c.requires))
    c.in_err-parameters.ensures.first)
