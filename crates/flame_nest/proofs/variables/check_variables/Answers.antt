use Rattle.std.proofs.lemmas.Result.{err_from_is_err_and}
use Rattle.flame_nest.specs.NestFaults.{meant_by, variable_faults}
use Rattle.flame_nest.proofs.Firsts.{fails-item, none-item}
use Rattle.flame_nest.proofs.variables.check_variables.Goals as goal

pub loop-variable-preserved : goal.loop-variable-preserved
loop-variable-preserved c =
    none-item
    (variable_faults c.args.file.now (meant_by c.args.kinds.now))
    c.args.variables.now
    c.loop-variable.variable-index
    c.variable-item.result
    c.variable-item.result
    _
    c.loop-variable-test.true
    c.variable-item.is
    c.loop-variable.invariant
    c.in_ok-check_variable.ensures.none

pub returns-in_err-check_variable-clause-first : goal.returns-in_err-check_variable-clause-first
returns-in_err-check_variable-clause-first c =
    let p = err_from_is_err_and c.from_residual.result c.from_residual.ensures.1 in
    rw
    (p.1, p.2)
    (fails-item
    _
    (variable_faults c.args.file.now (meant_by c.args.kinds.now))
    c.args.variables.now
    c.loop-variable.variable-index
    c.variable-item.result
    c.variable-item.result
    _
    c.loop-variable-test.true
    c.variable-item.is
    c.loop-variable.invariant
    c.in_err-check_variable.ensures.first)
