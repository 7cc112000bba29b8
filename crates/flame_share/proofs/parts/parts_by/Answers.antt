use Rattle.std.proofs.Common.{ap, arith, length}
use Rattle.flame_rows.proofs.Parting.{over}
use Rattle.flame_share.proofs.Loops.{pair-next, pair-over}
use Rattle.flame_share.proofs.parts.parts_by.Goals as goal

pub loop-rows-preserved : goal.loop-rows-preserved
loop-rows-preserved c =
    let steps = c.in-Some.ensures.steps in
    let kept = c.loop-rows.invariant in
    record {
      counted = omega (arith, steps.0.1, ap length steps.0.0, kept.counted);
      parts = pair-next _ _ _ _ _ _ _ _ _ _ _ kept.parts steps.0.0 steps.1 c.in_ok-part_of.ensures c.in_ok-push.ensures.items;
    }

pub returns : goal.returns
returns c =
    pair-over _ _ _ _ _ c.loop-rows.invariant.parts
    (over _ _ _ c.loop-rows.invariant.counted c.in-None.ensures.steps)
