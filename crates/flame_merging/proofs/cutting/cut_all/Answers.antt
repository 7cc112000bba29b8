use Rattle.std.proofs.Common.{◌∙◌, ap, arith, length, sym}
use Rattle.std.specs.Vec.Iter.{into_iter_items}
use Rattle.flame_rows.specs.Bags.{weigh}
use Rattle.flame_rows.proofs.BagLaws.{weigh-append}
use Rattle.flame_merging.specs.RowLists.{rows_in}
use Rattle.flame_merging.proofs.RowWeights.{weigh-first, weigh-none, weigh-push}
use Rattle.flame_merging.proofs.cutting.cut_all.Goals as goal

pub loop-list-preserved : goal.loop-list-preserved
loop-list-preserved c =
    let kept = c.loop-list.invariant in
    let steps = c.in-Some.ensures.steps in
    let front = c.in_ok-front.front in
    let back = c.in_ok-front.back in
    record {
      counted = omega (arith, steps.1, ap length steps.0, kept.counted);
      heavy = λ weight. omega (
        arith,
        kept.heavy weight,
        ap (λ lists. weigh weight (rows_in lists)) steps.0,
        weigh-first weight c.in-Some.list (into_iter_items c.next.new.self),
        ap (weigh weight) c.in_ok-front.ensures,
        weigh-append weight front.items back.items,
        ap (λ lists. weigh weight (rows_in lists)) c.in_ok-push.ensures.items,
        weigh-push weight c.loop-list.fronts.items front,
        ap (λ lists. weigh weight (rows_in lists)) c.in_ok-push-2.ensures.items,
        weigh-push weight c.loop-list.backs.items back,
      );
    }

pub returns : goal.returns
returns c = λ weight. omega (
  arith,
  c.loop-list.invariant.heavy weight,
  weigh-none weight (into_iter_items c.loop-list.list-iterator)
      (sym c.loop-list.invariant.counted ∙ c.in-None.ensures.steps.0),
)
