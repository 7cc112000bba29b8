-- What is handed in is gone from the piece.
use Rattle.std.proofs.Common.{◌≡◌, Option, Some, None, map, ap, sym, ◌∙◌, arith}
use Rattle.std.proofs.lemmas.List.{map-set, length-map}
use Rattle.std.specs.Prelude.{slice_set}
use Rattle.std.specs.List.{position}
use Rattle.std.specs.Option.{option_map_or}
use Rattle.std.specs.Vec.{vec_len}
use Rattle.flame_pieces.specs.declared.works.Output.{Output}
use Rattle.flame_pieces.specs.KeptWorks.{part_of}
use Rattle.flame_pieces.proofs.KeptParts.{test, place_in, place_found, place_missing, found_there, found_nowhere, part_there, part_nowhere, part_kept, set_past}
use Rattle.flame_pieces.proofs.Rooms.{map_kept}
use Rattle.flame_pieces.proofs.works.Work.hand_in.Goals as goal

pub returns-in-Some-clause-rows : goal.returns-in-Some-clause-rows
returns-in-Some-clause-rows c =
    let message = c.args.message in
    let outputs = c.args.self.now.outputs.items in
    let at = place_found message outputs c.in-Some.place (ap (position (test message)) (sym c.deref.ensures.value) ∙ sym c.in-Some.ensures) in
    let there = part_there message outputs c.in-Some.place c.index_mut.result.now at.0 at.1 c.index_mut.ensures.value in
    λ rows is. c.hand_in.ensures.rows ∙ part_kept c.index_mut.result.now rows (sym there ∙ is)

pub returns-in-Some-clause-count : goal.returns-in-Some-clause-count
returns-in-Some-clause-count c =
    let message = c.args.message in
    let outputs = c.args.self.now.outputs.items in
    let at = place_found message outputs c.in-Some.place (ap (position (test message)) (sym c.deref.ensures.value) ∙ sym c.in-Some.ensures) in
    c.hand_in.ensures.count
    ∙ ap (λ (o : Option Output). option_map_or (λ output. vec_len output.rows.rows) o 0)
    (sym (found_there message outputs c.in-Some.place c.index_mut.result.now at.0 at.1 c.index_mut.ensures.value))

pub returns-in-Some-clause-work : goal.returns-in-Some-clause-work
returns-in-Some-clause-work c =
    let message = c.args.message in
    let work = c.args.self.now in
    let outputs = work.outputs.items in
    let at = place_found message outputs c.in-Some.place (ap (position (test message)) (sym c.deref.ensures.value) ∙ sym c.in-Some.ensures) in
    let place = sym at.1 in
    let part = c.hand_in.ensures.part in
    let parts = map-set part_of outputs c.in-Some.place c.hand_in.new.self
    ∙ (λ i. slice_set (map part_of outputs) (place i) (part i)) in
    λ i. record { agents = work.agents; ran = work.ran; parts = parts i; fault = work.fault }

pub returns-in-Some-clause-outputs : goal.returns-in-Some-clause-outputs
returns-in-Some-clause-outputs c =
    let message = c.args.message in
    let outputs = c.args.self.now.outputs.items in
    let at = place_found message outputs c.in-Some.place (ap (position (test message)) (sym c.deref.ensures.value) ∙ sym c.in-Some.ensures) in
    map_kept (λ (o : Output). o.message) outputs c.in-Some.place c.index_mut.result.now c.hand_in.new.self at.0 c.index_mut.ensures.value
    c.hand_in.ensures.message

pub returns-in-None-clause-rows : goal.returns-in-None-clause-rows
returns-in-None-clause-rows c =
    let message = c.args.message in
    let outputs = c.args.self.now.outputs.items in
    let past = place_missing message outputs (ap (position (test message)) (sym c.deref.ensures.value) ∙ sym c.in-None.ensures) in
    λ rows is.
    let none : None ≡ Some rows = sym (part_nowhere message outputs past) ∙ is in
    absurd cc

pub returns-in-None-clause-count : goal.returns-in-None-clause-count
returns-in-None-clause-count c =
    let message = c.args.message in
    let outputs = c.args.self.now.outputs.items in
    let past = place_missing message outputs (ap (position (test message)) (sym c.deref.ensures.value) ∙ sym c.in-None.ensures) in
    c.new.ensures.len
    ∙ ap (λ (o : Option Output). option_map_or (λ output. vec_len output.rows.rows) o 0) (sym (found_nowhere message outputs past))

pub returns-in-None-clause-work : goal.returns-in-None-clause-work
returns-in-None-clause-work c =
    let message = c.args.message in
    let work = c.args.self.now in
    let outputs = work.outputs.items in
    let past = place_missing message outputs (ap (position (test message)) (sym c.deref.ensures.value) ∙ sym c.in-None.ensures) in
    let parts = sym (set_past (map part_of outputs) (place_in message outputs) None (omega (arith, past, length-map outputs part_of))) in
    λ i. record { agents = work.agents; ran = work.ran; parts = parts i; fault = work.fault }
