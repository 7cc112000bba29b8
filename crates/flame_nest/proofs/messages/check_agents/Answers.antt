use Rattle.std.proofs.Common.{◌∙◌, ap, sym}
use Rattle.std.proofs.lemmas.Result.{err_from_is_err_and}
use Rattle.flame_spec.proofs.FaultLists.{FailsFirst-same}
use Rattle.flame_nest.specs.NestFaults.{meant_by, variables_faults}
use Rattle.flame_nest.proofs.Firsts.{fails-item, none-item}
use Rattle.flame_nest.proofs.messages.check_agents.Goals as goal

pub loop-agent-preserved : goal.loop-agent-preserved
loop-agent-preserved c =
    none-item
    (λ agent. variables_faults c.args.file.now (meant_by c.args.kinds.now) agent.memory)
    c.args.agents.now
    c.loop-agent.agent-index
    c.agent-item.result
    c.agent-item.result
    _
    c.loop-agent-test.true
    c.agent-item.is
    c.loop-agent.invariant
    (ap (variables_faults c.args.file.now (meant_by c.args.kinds.now)) (sym c.items.ensures)
    ∙ c.in_ok-check_variables.ensures.none)

pub returns-in_err-check_variables-clause-first : goal.returns-in_err-check_variables-clause-first
returns-in_err-check_variables-clause-first c =
    let p = err_from_is_err_and c.from_residual.result c.from_residual.ensures.1 in
    rw
    (p.1, p.2)
    (fails-item
    _
    (λ agent. variables_faults c.args.file.now (meant_by c.args.kinds.now) agent.memory)
    c.args.agents.now
    c.loop-agent.agent-index
    c.agent-item.result
    c.agent-item.result
    _
    c.loop-agent-test.true
    c.agent-item.is
    c.loop-agent.invariant
    (FailsFirst-same
    _
    _
    _
    (ap (variables_faults c.args.file.now (meant_by c.args.kinds.now)) c.items.ensures)
    c.in_err-check_variables.ensures.first))
