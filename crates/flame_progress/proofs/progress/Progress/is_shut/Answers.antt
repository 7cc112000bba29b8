use Rattle.std.proofs.Common.{Some, None, sym, ap, ◌∙◌}
use Rattle.flame_events.specs.CoreStates.{Waiting, is_shut}
use Rattle.flame_pieces.specs.KeptStatuses.{status_of as kept_status}
use Rattle.flame_progress.specs.KeptCores.{core_of}
use Rattle.flame_field.proofs.Written.{or_else_is}
use Rattle.flame_progress.proofs.progress.Progress.is_shut.Goals as goal

pub returns-in-Some : goal.returns-in-Some
returns-in-Some c =
    let core = core_of c.args.self.now in
    c.is_shut.ensures
    ∙ ap is_shut (sym (or_else_is core.statuses c.args.function Waiting (Some (kept_status c.in-Some.status.now)) c.in-Some.ensures.status))

pub returns-in-None : goal.returns-in-None
returns-in-None c =
    let core = core_of c.args.self.now in
    ap is_shut (sym (or_else_is core.statuses c.args.function Waiting None c.in-None.ensures.status))
