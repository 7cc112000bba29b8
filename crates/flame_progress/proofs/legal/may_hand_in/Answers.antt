use Rattle.std.proofs.Common.{◌≡◌, Some, ap, ◌∙◌}
use Rattle.flame_events.specs.LegalEvents.{may_hand_in, outputs_of}
use Rattle.flame_pieces.specs.KeptWorks.{work_of, outputs_in}
use Rattle.flame_progress.proofs.legal.may_hand_in.Goals as goal

pub returns-in-Some : goal.returns-in-Some
returns-in-Some c = λ model counts tallies.
    let f = c.args.function in
    let m = c.args.message in
    let work = c.in-Some.work.now in
    let outputs : outputs_in work ≡ outputs_of model f = c.in-Some.ensures.outputs (outputs_of model f) (tallies.outputs f) in
    c.may_hand_in.ensures
    ∙ ap (λ os. may_hand_in os (Some (work_of work)) m) outputs
    ∙ ap (λ w. may_hand_in (outputs_of model f) w m) c.in-Some.ensures.work

pub returns-in-None : goal.returns-in-None
returns-in-None c = λ model counts tallies.
    ap (λ w. may_hand_in (outputs_of model c.args.function) w c.args.message) c.in-None.ensures.work
