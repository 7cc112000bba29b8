use Rattle.std.proofs.Common.{Some, None, sym, ap, ◌∙◌, subst}
use Rattle.flame_events.specs.CoreStates.{Waiting}
use Rattle.flame_events.specs.LegalEvents.{may_shut, outputs_of}
use Rattle.flame_pieces.specs.declared.statuses.Status as kept
use Rattle.flame_pieces.specs.declared.statuses.Status.TheVariants as is
use Rattle.flame_pieces.specs.KeptStatuses.{status_of as kept_status, HasOutputs}
use Rattle.flame_progress.specs.KeptCores.{core_of}
use Rattle.flame_field.proofs.Written.{or_else_is}
use Rattle.flame_progress.proofs.legal.may_shut.Goals as goal

pub returns-in-Some : goal.returns-in-Some
returns-in-Some c = λ model counts tallies.
    let f = c.args.function in
    let progress = c.args.progress.now in
    let status = c.in-Some.status.now in
    let P : kept.Status → Type 0 = λ s. HasOutputs (outputs_of model f) s in
    let has = subst P (or_else_is progress.statuses.items f is.Waiting (Some status) c.in-Some.ensures.kept) (tallies.outputs f) in
    c.may_shut.ensures (outputs_of model f) (tallies.once f) has
    ∙ ap (may_shut (outputs_of model f))
    (sym (or_else_is (core_of progress).statuses f Waiting (Some (kept_status status)) c.in-Some.ensures.status))

pub returns-in-None : goal.returns-in-None
returns-in-None c = λ model counts tallies.
    ap (may_shut (outputs_of model c.args.function))
    (sym (or_else_is (core_of c.args.progress.now).statuses c.args.function Waiting None c.in-None.ensures.status))
