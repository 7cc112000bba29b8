-- One successor more.
use Rattle.std.proofs.Common.{◌≡◌, ◌-◌, ◌<◌, length, get_or, ap, sym, ◌∙◌, arith, true, false}
use Rattle.std.specs.Prelude.{◌==◌, ◌&&◌, ◌||◌}
use Rattle.std.proofs.lemmas.Bool.{eq-eqb, ne_eqb}
use Rattle.std.proofs.lemmas.List.{length-set, get_or-set_same}
use Rattle.flame_spec.specs.Below.{is_in}
use Rattle.std.proofs.Math.Bool.{or-false}
use Rattle.flame_spec.proofs.TimesLeft.{times-left, times-lessened}
use Rattle.flame_graph.proofs.Settling.{ready_more}
use Rattle.flame_graph.proofs.order.settle.Goals as goal
use Rattle.flame_graph.proofs.order.settle.Goals.{then-waiting-successor-eq0+in_ok-add, else-waiting-successor-eq0}

pub overflow_sub-waiting : goal.overflow_sub-waiting
overflow_sub-waiting c =
    let ts = c.args.successors.now in
    let i = c.loop-successor.successor-index in
    let t = get_or ts i 0 in
    let bound : t < length c.args.waiting.now = c.requires.within i 0 c.loop-successor-test.true in
    times-left ts i (get_or c.loop-successor.waiting t 0) (get_or c.args.waiting.now t 0) c.loop-successor-test.true (c.loop-successor.invariant.counts t (omega (arith, bound, c.loop-successor.auto.waiting))) (c.requires.enough t bound)

pub loop-successor-preserved : goal.loop-successor-preserved
loop-successor-preserved c =
    let ts = c.args.successors.now in
    let i = c.loop-successor.successor-index in
    let ws = c.loop-successor.waiting in
    let t = get_or ts i 0 in
    let w = get_or ws t 0 in
    let bound : t < length c.args.waiting.now = c.requires.within i 0 c.loop-successor-test.true in
    let within : t < length ws = omega (arith, bound, c.loop-successor.auto.waiting) in
    let one = times-left ts i w (get_or c.args.waiting.now t 0) c.loop-successor-test.true (c.loop-successor.invariant.counts t within) (c.requires.enough t bound) in
    record {
      counts = λ g l. times-lessened ts ws c.args.waiting.now i c.loop-successor-test.true within one g (c.loop-successor.invariant.counts g (omega (arith, l, length-set ws t (w - 1))));
      ready = λ g. ready_more ts ws c.args.ready.now c.loop-successor.ready c.if-waiting-successor-eq0.ready i c.loop-successor-test.true within one g (c.loop-successor.invariant.ready g) (elim c.if-waiting-successor-eq0.branch [
        | then-waiting-successor-eq0+in_ok-add b ↦
            let zero : (w - 1 == 0) ≡ true = eq-eqb (w - 1) 0 (sym (get_or-set_same ws t (w - 1) 0 within) ∙ b.if-waiting-successor-eq0.true) in
            ap (is_in g) b.ready-is ∙ b.in_ok-add.ensures g ∙ ap (λ z. is_in g c.loop-successor.ready || (z && (t == g))) (sym zero)
        | else-waiting-successor-eq0 b ↦
            let more : (w - 1 == 0) ≡ false = ne_eqb (w - 1) 0 (λ e. b.if-waiting-successor-eq0.false (get_or-set_same ws t (w - 1) 0 within ∙ e)) in
            ap (is_in g) b.ready-is ∙ sym (ap (λ z. is_in g c.loop-successor.ready || (z && (t == g))) more ∙ or-false (is_in g c.loop-successor.ready))
      ]);
    }
