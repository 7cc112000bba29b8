use Rattle.std.proofs.Common.{◌∙◌, ap, sym, subst}
use Rattle.flame_rows.specs.Bags.{merge}
use Rattle.flame_field.specs.KeptBoards.{board_bag}
use Rattle.flame_field.specs.KeptGatherings.{HasRoom}
use Rattle.flame_progress.proofs.handing.hand_over.Goals as goal

pub put-requires : goal.put-requires
put-requires c =
    subst (λ count. HasRoom count c.make_room.new.self) (c.count.ensures ∙ sym c.hand_in.ensures.count) c.in_ok-make_room-in-Gathering.ensures.room

pub returns-clause-board : goal.returns-clause-board
returns-clause-board c = λ rows at.
    let own = c.make_room.ensures.same ∙ sym (ap board_bag c.in-Gathering.is) in
    let more = c.hand_in.ensures.rows rows at in
    c.put.ensures ∙ (λ i. merge (own i) (more i))
