use Rattle.std.proofs.Common.{Some, None, sym, ap, ◌∙◌, subst}
use Rattle.std.specs.Prelude.{slice_get}
use Rattle.flame_events.specs.CoreStates.{Status, Waiting, works_of}
use Rattle.flame_pieces.specs.declared.statuses.Status as kept
use Rattle.flame_pieces.specs.declared.statuses.Status.TheVariants as is
use Rattle.flame_pieces.specs.KeptStatuses.{status_of as kept_status, HasOutputs}
use Rattle.flame_progress.specs.KeptCores.{core_of}
use Rattle.flame_field.proofs.Written.{or_else_is}
use Rattle.flame_progress.proofs.progress.Progress.work.Goals as goal

pub returns-in-Some-clause-work : goal.returns-in-Some-clause-work
returns-in-Some-clause-work c =
    let core = core_of c.args.self.now in
    c.work.ensures.work
    ∙ ap (λ (s : Status). slice_get (works_of s) c.args.piece)
    (sym (or_else_is core.statuses c.args.function Waiting (Some (kept_status c.in-Some.status.now)) c.in-Some.ensures.status))

pub returns-in-Some-clause-outputs : goal.returns-in-Some-clause-outputs
returns-in-Some-clause-outputs c = λ outputs has.
    let P : kept.Status → Type 0 = λ s. HasOutputs outputs s in
    c.work.ensures.outputs outputs
    (subst P (or_else_is c.args.self.now.statuses.items c.args.function is.Waiting (Some c.in-Some.status.now) c.in-Some.ensures.kept) has)

pub returns-in-None-clause-work : goal.returns-in-None-clause-work
returns-in-None-clause-work c =
    let core = core_of c.args.self.now in
    ap (λ (s : Status). slice_get (works_of s) c.args.piece)
    (sym (or_else_is core.statuses c.args.function Waiting None c.in-None.ensures.status))
