use Rattle.std.proofs.Common.{◌∙◌, ap, sym}
use Rattle.flame_world.specs.Fields.{Field, gathered}
use Rattle.flame_world.specs.Iterations.{turn_of, unless_faulted}
use Rattle.flame_events.specs.CoreEnds.{first_fault}
use Rattle.flame_progress.specs.KeptCores.{core_of}
use Rattle.flame_core.proofs.Finished.{done_is}
use Rattle.flame_core.proofs.ending.ended.Goals as goal

pub returns-in-Some : goal.returns-in-Some
returns-in-Some c =
    let core = core_of c.args.progress in
    let order = c.items.ensures ∙ c.plan.ensures.order in
    sym (ap (λ o. turn_of c.args.constants (unless_faulted o core.field))
    (sym (ap (first_fault core) order) ∙ sym c.taken_first.ensures.fault ∙ c.in-Some.is))

pub returns-in_ok-world-in-None : goal.returns-in_ok-world-in-None
returns-in_ok-world-in-None c =
    let core = core_of c.args.progress in
    let order = c.items.ensures ∙ c.plan.ensures.order in
    let closed = c.in_ok-world-in-None.ensures in
    done_is c.args.constants core.field _ _ closed.constants (closed.world ∙ ap gathered c.taken_first.ensures.field)
    (closed.boards ∙ ap (λ (f : Field). f.boards) c.taken_first.ensures.field)
    ∙ sym (ap (λ o. turn_of c.args.constants (unless_faulted o core.field))
    (sym (ap (first_fault core) order) ∙ sym c.taken_first.ensures.fault ∙ c.in-None.is))
