use Rattle.std.proofs.Common.{◌<◌, ◌∙◌, ap, sym, true, false, append-nil, arith, get_or, length}
use Rattle.std.proofs.Math.Nat.{mod-eq_of_lt}
use Rattle.flame_spec.specs.Below.{is_in}
use Rattle.flame_board.proofs.Turns.{due-next, none-due, turn-again}
use Rattle.flame_board.proofs.pieces.dues_of.Goals as goal
use Rattle.flame_board.proofs.pieces.dues_of.Goals.{then-is_among+in_ok-push, else-is_among}

pub loop-place-init : goal.loop-place-init
loop-place-init c =
    let layer = c.args.layer.now in
    let message = c.args.message in
    let lane = c.args.lane in
    record {
      turn = mod-eq_of_lt c.requires;
      dues = rw c.new-dues.ensures.items (none-due layer message lane c.requires);
    }

pub loop-place-preserved : goal.loop-place-preserved
loop-place-preserved c =
    let layer = c.args.layer.now in
    let message = c.args.message in
    let lane = c.args.lane in
    let place = c.loop-place.place in
    let kept = c.loop-place.invariant in
    let key = c.index-keys-place.result in
    let dues = c.loop-place.dues.items in
    let more = c.if-is_among.dues.items in
    let inside : place < length layer.pieces = omega (arith, c.loop-place-test.true, ap length c.items-keys.ensures) in
    let there = c.index-keys-place.is ∙ ap (λ keys. get_or keys place key) c.items-keys.ensures in
    let output = sym (c.is_among.ensures ∙ ap (is_in message) c.items.ensures) in
    record {
      turn = turn-again layer message lane place kept.turn;
      dues = elim c.if-is_among.branch [
        | then-is_among+in_ok-push w ↦
            due-next layer message lane dues more place key true inside there layer.some kept.turn
            (output ∙ w.if-is_among.true)
            (ap (λ made. made.items) w.dues-is ∙ w.in_ok-push.ensures.items)
            kept.dues
        | else-is_among w ↦
            due-next layer message lane dues more place key false inside there layer.some kept.turn
            (output ∙ w.if-is_among.false)
            (ap (λ made. made.items) w.dues-is ∙ sym (append-nil dues))
            kept.dues
      ];
    }
