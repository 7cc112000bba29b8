use Rattle.std.proofs.Common.{◌++◌, ◌∷◌, [], length, Some, None, ap, ◌∙◌, arith, length-append}
use Rattle.crossbeam_channel.specs.Claims.{view}
use Rattle.flame_board.specs.declared.logs.Log.{Log}
use Rattle.flame_board.specs.LaneParts.{gaps, put_in}
use Rattle.flame_board.proofs.Handed.{gaps-gap, gaps-part, put_in-part, put_in-went}
use Rattle.flame_board.proofs.Relays.{pushes}
use Rattle.flame_board.proofs.boards.Board.hand_in.Goals as goal

pub try_send_as-requires-clause-rule : goal.try_send_as-requires-clause-rule
try_send_as-requires-clause-rule g c = (pushes _ _ _ _ c.args.lane.now.sends, λ items views rule at. tt)

pub invariant_of-lane-in-Ok : goal.invariant_of-lane-in-Ok
invariant_of-lane-in-Ok g c =
    let lane = c.args.lane.now in
    let part = c.args.part in
    let then = c.in-Ok.ensures.rule in
    let stayed = c.push_reserved.ensures.items ∙ ap (λ l. l ++ None ∷ []) c.in_ok-reserve.ensures.items in
    record {
      seat = c.try_send_as.ensures.channel.0;
      sends = ap (λ (w : Log). w.sends) then ∙ lane.sends;
      boards_seat = lane.boards_seat;
      takes = lane.takes;
      fresh = lane.fresh;
      went = omega (
        arith,
        ap gaps stayed,
        gaps-gap lane.stayed.items,
        lane.went,
        ap (λ (w : Log). length w.sent) then,
        length-append (view lane.pass).sent (part ∷ []),
      );
    }

pub invariant_of-lane-in-Err : goal.invariant_of-lane-in-Err
invariant_of-lane-in-Err g c =
    let lane = c.args.lane.now in
    let part = c.args.part in
    let back = c.in-Err.ensures.rule in
    let stayed = c.push_reserved-in-Err.ensures.items ∙ ap (λ l. l ++ Some c.into_inner.result ∷ []) c.in_ok-reserve.ensures.items
    ∙ ap (λ p. lane.stayed.items ++ Some p ∷ []) (c.into_inner.ensures ∙ back.0) in
    record {
      seat = c.try_send_as.ensures.channel.0;
      sends = ap (λ (w : Log). w.sends) back.1 ∙ lane.sends;
      boards_seat = lane.boards_seat;
      takes = lane.takes;
      fresh = lane.fresh;
      went = omega (
        arith,
        ap gaps stayed,
        gaps-part lane.stayed.items part,
        lane.went,
        ap (λ (w : Log). length w.sent) back.1,
      );
    }

pub returns-in-Ok-clause-added : goal.returns-in-Ok-clause-added
returns-in-Ok-clause-added g c =
    let lane = c.args.lane.now in
    let then = c.in-Ok.ensures.rule in
    let stayed = c.push_reserved.ensures.items ∙ ap (λ l. l ++ None ∷ []) c.in_ok-reserve.ensures.items in
    (λ i. put_in (stayed i) (ap (λ (w : Log). w.sent) then i)) ∙ put_in-went lane.stayed.items (view lane.pass).sent c.args.part lane.went

pub returns-in-Err-clause-added : goal.returns-in-Err-clause-added
returns-in-Err-clause-added g c =
    let lane = c.args.lane.now in
    let back = c.in-Err.ensures.rule in
    let stayed = c.push_reserved-in-Err.ensures.items ∙ ap (λ l. l ++ Some c.into_inner.result ∷ []) c.in_ok-reserve.ensures.items
    ∙ ap (λ p. lane.stayed.items ++ Some p ∷ []) (c.into_inner.ensures ∙ back.0) in
    (λ i. put_in (stayed i) (ap (λ (w : Log). w.sent) back.1 i)) ∙ put_in-part lane.stayed.items (view lane.pass).sent c.args.part lane.went
