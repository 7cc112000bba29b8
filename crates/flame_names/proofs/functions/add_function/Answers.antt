use Rattle.std.proofs.Common.{◌∙◌, sym, ap, codes, ◌++◌}
use Rattle.std.proofs.lemmas.Result.{err_from_is_err_and, IfErr-weaker}
use Rattle.flame_spec.specs.KnownNames.{is_among}
use Rattle.flame_spec.specs.Paths.{at_key}
use Rattle.flame_spec.specs.Leaves.{condition_faults}
use Rattle.flame_spec.specs.FunctionFaults.{condition_scope, inputs_faults, outputs_faults}
use Rattle.flame_spec.proofs.FaultLists.{FailsFirst-same, FailsFirst-front}
use Rattle.flame_names.specs.PlacePaths.{text_of}
use Rattle.flame_names.specs.TableScopes.{declared_of}
use Rattle.flame_names.specs.FunctionTitles.{title_at}
use Rattle.flame_names.proofs.Chains.{skip_two, skip_three}
use Rattle.flame_names.proofs.functions.add_function.Goals as goal

pub returns-in_err-inputs-clause-first : goal.returns-in_err-inputs-clause-first
returns-in_err-inputs-clause-first c =
    let p = err_from_is_err_and c.from_residual-in_err-inputs.result c.from_residual-in_err-inputs.ensures.1 in
    let declared = declared_of c.args.tables.now in
    let memory = c.args.memory.now in
    let path = text_of c.args.place.now in
    let function = c.args.function.now in
    rw
    (p.1, p.2)
    (FailsFirst-front
    _
    _
    (inputs_faults declared memory (at_key path (codes "inputs")) c.items.result.now)
    (outputs_faults declared (at_key path (codes "outputs")) function.outputs)
    (skip_two
    (title_at (λ name. is_among name c.args.shared.now) c.args.earlier.now (at_key path (codes "name")) function)
    (condition_faults (condition_scope declared memory) (at_key path (codes "condition")) function.condition)
    (inputs_faults declared memory (at_key path (codes "inputs")) function.inputs)
    (outputs_faults declared (at_key path (codes "outputs")) function.outputs)
    c.in_ok-add_title.ensures.none
    c.in_ok-function_condition.ensures.none
    ∙ ap
    (λ l.
    inputs_faults declared memory (at_key path (codes "inputs")) l
    ++ outputs_faults declared (at_key path (codes "outputs")) function.outputs)
    (sym c.items.ensures))
    c.in_err-inputs.ensures.first)

pub returns-clause-first : goal.returns-clause-first
returns-clause-first c =
    let declared = declared_of c.args.tables.now in
    let memory = c.args.memory.now in
    let path = text_of c.args.place.now in
    let function = c.args.function.now in
    IfErr-weaker
    c.outputs.result
    _
    _
    (λ fail. FailsFirst-same
    fail
    _
    _
    (ap (outputs_faults declared (at_key path (codes "outputs"))) c.items-2.ensures
    ∙ sym (skip_three
    (title_at (λ name. is_among name c.args.shared.now) c.args.earlier.now (at_key path (codes "name")) function)
    (condition_faults (condition_scope declared memory) (at_key path (codes "condition")) function.condition)
    (inputs_faults declared memory (at_key path (codes "inputs")) function.inputs)
    (outputs_faults declared (at_key path (codes "outputs")) function.outputs)
    c.in_ok-add_title.ensures.none
    c.in_ok-function_condition.ensures.none
    (ap (inputs_faults declared memory (at_key path (codes "inputs"))) (sym c.items.ensures)
    ∙ c.in_ok-inputs.ensures.none))))
    c.outputs.ensures.first
