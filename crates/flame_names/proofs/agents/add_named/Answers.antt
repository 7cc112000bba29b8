use Rattle.std.proofs.Common.{take}
use Rattle.std.proofs.lemmas.Result.{err_from_is_err_and}
use Rattle.flame_spec.specs.Paths.{at_number}
use Rattle.flame_spec.specs.NameFaults.{memory_variable_faults}
use Rattle.flame_spec.proofs.FaultLists.{FailsFirst-member}
use Rattle.flame_names.specs.PlacePaths.{text_of}
use Rattle.flame_names.proofs.agents.add_named.Goals as goal

pub returns-in_err-add_memory-clause-first : goal.returns-in_err-add_memory-clause-first
returns-in_err-add_memory-clause-first c =
    let p = err_from_is_err_and c.from_residual.result c.from_residual.ensures.1 in
    let constants = c.args.constants.now in
    let path = text_of c.args.place.now in
    let variables = c.args.variables.now in
    let i = c.loop-i.i in
    rw
    (p.1, p.2)
    (FailsFirst-member
    _
    (λ i variable. memory_variable_faults constants (take i variables) (at_number path i) variable)
    variables
    i
    c.index-variables-i.result
    _
    (memory_variable_faults constants c.loop-i.earlier (at_number path i) c.index-variables-i.result)
    c.loop-i-test.true
    c.loop-i.invariant.rest
    (cc)
    c.in_err-add_memory.ensures.first)
