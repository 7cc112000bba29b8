-- Room is made in one piece, and the others stay.
use Rattle.std.proofs.Common.{◌<◌, length, map, sym, ap, ◌∙◌, subst, arith}
use Rattle.std.proofs.lemmas.List.{length-map}
use Rattle.std.proofs.lemmas.Result.{on_ok_weaker}
use Rattle.flame_events.specs.CoreStates.{Open, works_of}
use Rattle.flame_pieces.specs.declared.statuses.Status.{Status}
use Rattle.flame_pieces.specs.KeptWorks.{work_of, WorkHasRoom}
use Rattle.flame_pieces.specs.KeptStatuses.{status_of}
use Rattle.flame_pieces.proofs.Rooms.{map_kept}
use Rattle.flame_pieces.proofs.Pieces.{got_back}
use Rattle.flame_pieces.proofs.statuses.Status.make_room.Goals as goal

pub returns-clause-same : goal.returns-clause-same
returns-clause-same c =
    let works = c.in-Open.works.items in
    let piece = c.args.piece in
    let there : piece < length (map work_of works) =
    subst (λ (s : Status). piece < length (works_of (status_of s))) c.in-Open.is c.requires.there in
    let within : piece < length works = omega (arith, there, length-map works work_of) in
    ap Open
    (map_kept work_of works piece c.index_mut.result.now c.make_room.new.self within c.index_mut.ensures.value c.make_room.ensures.same)
    ∙ ap status_of (sym c.in-Open.is)

pub returns-clause-room : goal.returns-clause-room
returns-clause-room c =
    on_ok_weaker c.make_room.result
    (λ room work at. subst (WorkHasRoom c.args.parts.now) (got_back c.in-Open.works.items c.args.piece c.make_room.new.self work at) room)
    c.make_room.ensures.room
