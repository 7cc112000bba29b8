use Rattle.std.proofs.Common.{take}
use Rattle.std.proofs.lemmas.Result.{err_from_is_err_and}
use Rattle.flame_spec.specs.Paths.{at_number}
use Rattle.flame_spec.specs.FunctionFaults.{read_names, input_faults}
use Rattle.flame_spec.proofs.FaultLists.{FailsFirst-member}
use Rattle.flame_names.specs.PlacePaths.{text_of}
use Rattle.flame_names.specs.TableScopes.{declared_of}
use Rattle.flame_names.proofs.functions.inputs.Goals as goal

pub returns-in_err-add_input-clause-first : goal.returns-in_err-add_input-clause-first
returns-in_err-add_input-clause-first c =
    let p = err_from_is_err_and c.from_residual.result c.from_residual.ensures.1 in
    let declared = declared_of c.args.tables.now in
    let memory = c.args.memory.now in
    let path = text_of c.args.place.now in
    let inputs = c.args.inputs.now in
    rw
    (p.1, p.2)
    (FailsFirst-member
    _
    (λ i input. input_faults declared memory (read_names (take i inputs)) (at_number path i) input)
    inputs
    c.loop-i.i
    c.index-inputs-i.result
    _
    (input_faults declared memory c.loop-i.earlier (at_number path c.loop-i.i) c.index-inputs-i.result)
    c.loop-i-test.true
    c.loop-i.invariant.rest
    (cc)
    c.in_err-add_input.ensures.first)
