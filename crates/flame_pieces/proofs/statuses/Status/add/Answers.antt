-- Agents more ran of one piece, and the others stay.
use Rattle.std.proofs.Common.{◌≡◌, ◌+◌, ◌<◌, length, map, sym, ap, ◌∙◌, subst, arith}
use Rattle.std.proofs.lemmas.List.{length-map, map-set}
use Rattle.std.specs.Option.{option_or}
use Rattle.std.specs.Prelude.{slice_get, slice_set}
use Rattle.std.proofs.lemmas.Option.{same_Some}
use Rattle.flame_rows.proofs.Lists.{slice_get-map_at}
use Rattle.flame_events.specs.CoreStates.{Work as Meant, Open, works_of}
use Rattle.flame_pieces.specs.declared.statuses.Status.{Status}
use Rattle.flame_pieces.specs.KeptWorks.{work_of, with_lists}
use Rattle.flame_pieces.specs.KeptStatuses.{status_of}
use Rattle.flame_pieces.proofs.Rooms.{items_of}
use Rattle.flame_pieces.proofs.statuses.Status.add.Goals as goal

pub add-requires-clause-left : goal.add-requires-clause-left
add-requires-clause-left c =
    let works = c.in-Open.works.items in
    let piece = c.args.piece in
    let there : piece < length (map work_of works) =
    subst (λ (s : Status). piece < length (works_of (status_of s))) c.in-Open.is c.requires.there in
    let within : piece < length works = omega (arith, there, length-map works work_of) in
    c.requires.left (work_of c.index_mut.result.now)
    (ap (λ (s : Status). slice_get (works_of (status_of s)) piece) c.in-Open.is
    ∙ slice_get-map_at work_of works piece c.index_mut.result.now within c.index_mut.ensures.value)

pub returns-clause-status : goal.returns-clause-status
returns-clause-status c = λ work at.
    let works = c.in-Open.works.items in
    let piece = c.args.piece in
    let there : piece < length (map work_of works) =
    subst (λ (s : Status). piece < length (works_of (status_of s))) c.in-Open.is c.requires.there in
    let within : piece < length works = omega (arith, there, length-map works work_of) in
    let same : work_of c.index_mut.result.now ≡ work =
    same_Some (work_of c.index_mut.result.now) work
    (sym (slice_get-map_at work_of works piece c.index_mut.result.now within c.index_mut.ensures.value)
    ∙ ap (λ (s : Status). slice_get (works_of (status_of s)) piece) (sym c.in-Open.is)
    ∙ at) in
    let more : Meant → Meant = λ w. record {
      agents = w.agents;
      ran = w.ran + c.args.ran;
      parts = with_lists (map items_of c.args.parts.items) w.parts;
      fault = option_or w.fault c.args.fault;
    } in
    let is = c.add.ensures.work ∙ ap more same in
    let olds = ap (λ (s : Status). works_of (status_of s)) (sym c.in-Open.is) in
    ap Open (map-set work_of works piece c.add.new.self ∙ (λ i. slice_set (olds i) piece (is i)))
