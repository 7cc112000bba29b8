use Rattle.std.proofs.Common.{subst}
use Rattle.flame_board.specs.SeenLanes.{IsNewLane}
use Rattle.flame_board.specs.SeenBoards.{IsLaneFor}
use Rattle.flame_board.proofs.EndLists.{AllZip-next, ends-more}
use Rattle.flame_board.proofs.boards.lanes_of.Goals as goal

pub loop-number-preserved : goal.loop-number-preserved
loop-number-preserved c =
    let made = c.in_ok-end.ensures in
    let kept = c.loop-number.invariant in
    let layer = c.args.layer.now in
    let number = c.loop-number.number in
    let lane = c.in_ok-end.lane in
    record {
      ends = rw (c.in_ok-push.ensures.items, c.in_ok-push-2.ensures.items) (ends-more _ _ _ _ kept.ends made.end);
      lanes = rw c.in_ok-push-2.ensures.items
          (AllZip-next (IsLaneFor layer c.args.message) number c.loop-number.lanes.items lane kept.lanes
          (subst (λ dues. IsNewLane dues number lane) c.in_ok-dues.ensures made.lane));
    }
