use Rattle.std.proofs.Common.{Option, ap, sym, ◌∙◌}
use Rattle.std.specs.List.{position}
use Rattle.std.specs.Option.{option_map_or}
use Rattle.std.specs.Vec.{vec_len}
use Rattle.flame_pieces.specs.declared.works.Output.{Output}
use Rattle.flame_pieces.proofs.KeptParts.{test, place_found, place_missing, found_there, found_nowhere}
use Rattle.flame_pieces.proofs.works.Work.count.Goals as goal

pub returns-in-Some : goal.returns-in-Some
returns-in-Some c =
    let message = c.args.message in
    let outputs = c.args.self.now.outputs.items in
    let at = place_found message outputs c.in-Some.place (ap (position (test message)) (sym c.deref.ensures.value) ∙ sym c.in-Some.ensures) in
    c.len.ensures
    ∙ ap (λ (o : Option Output). option_map_or (λ output. vec_len output.rows.rows) o 0)
    (sym (found_there message outputs c.in-Some.place c.index.result.now at.0 at.1 c.index.ensures))

pub returns-in-None : goal.returns-in-None
returns-in-None c =
    let message = c.args.message in
    let outputs = c.args.self.now.outputs.items in
    let past = place_missing message outputs (ap (position (test message)) (sym c.deref.ensures.value) ∙ sym c.in-None.ensures) in
    ap (λ (o : Option Output). option_map_or (λ output. vec_len output.rows.rows) o 0) (sym (found_nowhere message outputs past))
