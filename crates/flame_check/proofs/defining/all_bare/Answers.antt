use Rattle.std.proofs.lemmas.Result.{err_from_is_err_and}
use Rattle.std.specs.List.{flat_map}
use Rattle.flame_spec.specs.CheckFaults.{with_parameters_faults}
use Rattle.flame_spec.specs.Definitions.{definitions}
use Rattle.flame_lookup.specs.WordsFound.{definition_found}
use Rattle.flame_check.proofs.Rests.{rest_fails}
use Rattle.flame_check.proofs.defining.all_bare.Goals as goal

pub returns-in_err-bare-clause-first : goal.returns-in_err-bare-clause-first
returns-in_err-bare-clause-first c =
    let p = err_from_is_err_and c.from_residual.result c.from_residual.ensures.1 in
    let faults = with_parameters_faults c.args.tables.now.model in
    rw (p.1, p.2)
    (rest_fails definition_found faults c.c_functions-all.result.now c.loop-function.function-index
    c.function-item.result (flat_map faults (definitions c.args.tables.now.units)) _ c.loop-function-test.true
    c.function-item.is c.loop-function.invariant c.in_err-bare.ensures.first)
