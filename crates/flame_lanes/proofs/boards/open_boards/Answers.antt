use Rattle.std.proofs.Common.{◌<◌, ◌∷◌, [], ◌∙◌, ap, arith, get_or, length, length-append, refl, subst, sym}
use Rattle.std.specs.List.{AllZip, range_with_len}
use Rattle.flame_board.specs.SeenBoards.{AreLanesOf, IsLaneFor}
use Rattle.flame_lanes.proofs.BoardWeights.{emptied-long, new-boards-push, opened-next}
use Rattle.flame_lanes.proofs.boards.open_boards.Goals as goal

pub loop-message-preserved : goal.loop-message-preserved
loop-message-preserved c =
    let kept = c.loop-message.invariant in
    let layer = c.args.layer.now in
    let messages = c.args.messages.now in
    let place = c.loop-message.message-index in
    let own = get_or messages place 0 in
    let boards = c.loop-message.boards.items in
    let board = c.in_ok-board.board in
    let made = c.in_ok-board.ensures in
    let taken = c.in_ok-before.ensures in
    let within : place < length messages = omega (arith, c.loop-message-test.true) in
    record {
      new = rw (c.in_ok-push.ensures.items, c.in_ok-push-2.ensures.items)
          (new-boards-push layer own boards c.loop-message.columns.items board c.into_items.result kept.new
          (subst (AllZip (IsLaneFor layer own) (range_with_len 0 layer.lanes)) (sym c.into_items.ensures) made.lanes)
          (subst (AreLanesOf board) (sym c.into_items.ensures) made.all));
      long = omega (arith, ap length c.in_ok-push.ensures.items, length-append boards (board ∷ []), kept.long);
      moved =
          opened-next c.args.field.now.items c.loop-message.field.items c.take.new.boards.items messages place boards
          c.push.new.self.items own board within refl kept.long taken.others (made.before ∙ taken.bag)
          c.in_ok-push.ensures.items kept.moved;
      count = emptied-long c.loop-message.field.items c.take.new.boards.items own taken.others ∙ kept.count;
    }
