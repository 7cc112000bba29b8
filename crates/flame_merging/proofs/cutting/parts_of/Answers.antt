use Rattle.std.proofs.Common.{ap, arith}
use Rattle.flame_merging.specs.RowLists.{weigh_parts}
use Rattle.flame_merging.proofs.RowWeights.{parts-push}
use Rattle.flame_merging.proofs.cutting.parts_of.Goals as goal

pub loop-bound-preserved : goal.loop-bound-preserved
loop-bound-preserved c = λ weight. omega (
  arith,
  c.loop-bound.invariant weight,
  c.in_ok-fronts.ensures weight,
  ap (weigh_parts weight) c.in_ok-push.ensures.items,
  parts-push weight c.loop-bound.parts.items c.in_ok-fronts.backs,
)

pub returns : goal.returns
returns c = λ weight. omega (
  arith,
  c.loop-bound.invariant weight,
  ap (weigh_parts weight) c.in_ok-push-2.ensures.items,
  parts-push weight c.loop-bound.parts.items c.loop-bound.rest,
)
