-- A share comes, or nothing changes, or the flow is short.
use Rattle.std.proofs.Common.{refl}
use Rattle.flame_flow.specs.FlowCalls.{NotSettled}
use Rattle.flame_core.proofs.Done.{no_memory_is}
use Rattle.flame_flow.proofs.flows.Flow.settle.Goals as goal

pub returns-in_err-bring-clause-err : goal.returns-in_err-bring-clause-err
returns-in_err-bring-clause-err c =
    no_memory_is c.from_residual.result (NotSettled c.args.share c.args.self.now c.bring.new.self) c.from_residual.ensures.1
    (c.if-not-can_settle.ensures.0 refl, c.in_err-bring.ensures.err)
