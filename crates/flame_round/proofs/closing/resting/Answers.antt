use Rattle.std.proofs.Common.{◌≡◌, ◌∙◌, ap, arith, length, map, sym}
use Rattle.std.specs.Vec.Iter.{into_iter_items}
use Rattle.std.proofs.lemmas.List.{length-map}
use Rattle.flame_field.specs.KeptGatherings.{bag_of}
use Rattle.flame_field.specs.KeptPools.{pool_bag}
use Rattle.flame_round.proofs.Collected.{collected-all, collected-more}
use Rattle.flame_round.proofs.closing.resting.Goals as goal

pub loop-pool-preserved : goal.loop-pool-preserved
loop-pool-preserved c =
    let old = c.loop-pool.invariant in
    let steps = c.in-Some.ensures.steps in
    record {
      counted = omega (arith, steps.1, ap length steps.0, old.counted);
      all =
          collected-more _ (bag_of c.loop-pool.all) (pool_bag c.in-Some.pool) _ _ (map pool_bag (into_iter_items c.next.new.self)) old.all
          (ap (map pool_bag) steps.0)
          c.in_ok-join.ensures;
    }

pub returns : goal.returns
returns c =
    let old = c.loop-pool.invariant in
    let pools = into_iter_items c.loop-pool.pool-iterator in
    let none : length (map pool_bag pools) ≡ 0 = length-map pools pool_bag ∙ sym old.counted ∙ c.in-None.ensures.steps.0 in
    collected-all _ c.loop-pool.all.rows.items (map pool_bag pools) old.all none
