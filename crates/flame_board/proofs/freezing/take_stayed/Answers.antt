use Rattle.std.proofs.Common.{◌∷◌, ◌∙◌, ap, arith, length}
use Rattle.std.specs.Vec.Iter.{into_iter_items}
use Rattle.flame_merging.proofs.RowWeights.{bags-push}
use Rattle.flame_board.specs.LaneParts.{weigh_bags, weigh_stayed}
use Rattle.flame_board.proofs.freezing.take_stayed.Goals as goal

pub loop-one-preserved-in-Continue-1 : goal.loop-one-preserved-in-Continue-1
loop-one-preserved-in-Continue-1 c =
    let steps = c.in-Some.ensures.steps in
    let kept = c.loop-one.invariant in
    let part = c.in-Some-one.part in
    record {
      counted = omega (arith, steps.1, ap length steps.0, kept.counted);
      rows = λ weight. omega (
        arith,
        kept.rows weight,
        ap (weigh_stayed weight) (steps.0 ∙ ap (λ one. one ∷ into_iter_items c.next.new.self) c.in-Some-one.is),
        ap (weigh_bags weight) c.in_ok-push.ensures.items,
        bags-push weight c.loop-one.bags.items part.rows,
      );
    }
