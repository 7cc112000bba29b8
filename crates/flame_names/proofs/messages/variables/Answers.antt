use Rattle.std.proofs.Common.{take}
use Rattle.std.proofs.lemmas.Result.{err_from_is_err_and}
use Rattle.flame_spec.specs.Paths.{at_number}
use Rattle.flame_spec.specs.MessageFaults.{variable_faults}
use Rattle.flame_spec.proofs.FaultLists.{FailsFirst-member}
use Rattle.flame_names.specs.PlacePaths.{text_of}
use Rattle.flame_names.proofs.messages.variables.Goals as goal

pub returns-in_err-add_field-clause-first : goal.returns-in_err-add_field-clause-first
returns-in_err-add_field-clause-first c =
    let p = err_from_is_err_and c.from_residual.result c.from_residual.ensures.1 in
    let path = text_of c.args.place.now in
    let variables = c.args.variables.now in
    let i = c.loop-i.i in
    rw
    (p.1, p.2)
    (FailsFirst-member
    _
    (λ i variable. variable_faults (take i variables) (at_number path i) variable)
    variables
    i
    c.index-variables-i.result
    _
    (variable_faults c.loop-i.earlier (at_number path i) c.index-variables-i.result)
    c.loop-i-test.true
    c.loop-i.invariant.rest
    (cc)
    c.in_err-add_field.ensures.first)
