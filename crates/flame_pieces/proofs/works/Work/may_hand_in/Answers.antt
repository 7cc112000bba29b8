use Rattle.std.proofs.Common.{map, ap, sym, ◌∙◌}
use Rattle.std.specs.Prelude.{not, ◌&&◌, is_some}
use Rattle.std.specs.List.{position}
use Rattle.flame_events.specs.CoreStates.{part_in}
use Rattle.flame_pieces.specs.KeptWorks.{part_of, messages_in}
use Rattle.flame_pieces.proofs.KeptParts.{test, place_found, place_missing, part_there, part_nowhere, some_kept}
use Rattle.flame_pieces.proofs.works.Work.may_hand_in.Goals as goal

pub returns-in-Some : goal.returns-in-Some
returns-in-Some c =
    let message = c.args.message in
    let outputs = c.args.self.now.outputs.items in
    let at = place_found message outputs c.in-Some.place (ap (position (test message)) (sym c.deref.ensures.value) ∙ sym c.in-Some.ensures) in
    some_kept c.index.result.now
    ∙ ap is_some (sym (part_there message outputs c.in-Some.place c.index.result.now at.0 at.1 c.index.ensures))
    ∙ ap (λ b. not b && is_some (part_in (messages_in outputs) (map part_of outputs) message)) c.if-has_left.ensures

pub returns-in-None : goal.returns-in-None
returns-in-None c =
    let message = c.args.message in
    let outputs = c.args.self.now.outputs.items in
    let past = place_missing message outputs (ap (position (test message)) (sym c.deref.ensures.value) ∙ sym c.in-None.ensures) in
    ap is_some (sym (part_nowhere message outputs past))
    ∙ ap (λ b. not b && is_some (part_in (messages_in outputs) (map part_of outputs) message)) c.if-has_left.ensures
