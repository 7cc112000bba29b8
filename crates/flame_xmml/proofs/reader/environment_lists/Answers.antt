-- The faults of a key come before those of the keys after it.
use Rattle.flame_spec.proofs.FaultLists.{Reads-passed, FailsFirst-append, FailsFirst-behind}
use Rattle.flame_xmml.proofs.reader.environment_lists.Goals as goal

pub returns-in_err-list_at-2 : goal.returns-in_err-list_at-2
returns-in_err-list_at-2 c =
    Reads-passed _ _ _ c.from_residual-in_err-list_at-2.result c.from_residual-in_err-list_at-2.ensures.1
    (FailsFirst-append _ _ _ (FailsFirst-behind _ _ _ c.in_ok-list_at.ensures.0 c.in_err-list_at-2.ensures))
