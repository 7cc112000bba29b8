-- The faults of a key come before those of the keys after it.
use Rattle.flame_spec.proofs.FaultLists.{Reads-passed, FailsFirst-append, FailsFirst-behind}
use Rattle.flame_xmml.proofs.member.uses_at.Goals as goal

pub returns-in_err-condition : goal.returns-in_err-condition
returns-in_err-condition c =
    Reads-passed _ _ _ c.from_residual.result c.from_residual.ensures.1
    (FailsFirst-append _ _ _ (FailsFirst-append _ _ _ c.in_err-condition.ensures))

pub returns-in_err-inputs : goal.returns-in_err-inputs
returns-in_err-inputs c =
    Reads-passed _ _ _ c.from_residual-in_err-inputs.result c.from_residual-in_err-inputs.ensures.1
    (FailsFirst-append _ _ _ (FailsFirst-behind _ _ _ c.in_ok-condition.ensures.0 c.in_err-inputs.ensures))
