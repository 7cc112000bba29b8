use Rattle.std.proofs.Common.{◌≡◌, ◌∙◌, [], rules, length, sym, ap, arith}
use Rattle.std.specs.Vec.Iter.{into_iter_items}
use Rattle.std.proofs.lemmas.List.{nil_from_length}
use Rattle.flame_rows.specs.Bags.{merge}
use Rattle.flame_rows.proofs.BagLaws.{IsAscending-ascending, IsAscending-merge, equal_by_weighings, merge_adds_weights, weigh-ascending}
use Rattle.flame_field.specs.KeptGatherings.{bag_of}
use Rattle.flame_field.specs.KeptPools.{pool_bag}
use Rattle.flame_field.proofs.Dealing.{weighs, weigh-pool, weigh-added}
use Rattle.flame_field.proofs.pools.Pool.join.Goals as goal

pub loop-chosen-init : goal.loop-chosen-init
loop-chosen-init c =
    let gives = c.into_iter-chosen-iterator.ensures.into_iter_gives in
    record {
      counted = search rules;
      weighed = λ w. let more = weigh-added w c.args.all.now c.add_all.new.self c.args.self.fresh.rows.items c.in_ok-add_all.ensures.ok in omega (arith, more, ap (weighs w) gives.0);
    }

pub loop-chosen-preserved : goal.loop-chosen-preserved
loop-chosen-preserved c =
    let kept = c.loop-chosen.invariant in
    let steps = c.in-Some.ensures.steps in
    record {
      counted = omega (arith, steps.1, ap length steps.0, kept.counted);
      weighed = λ w.
          omega (
            arith,
            kept.weighed w,
            ap (weighs w) steps.0,
            weigh-added w c.loop-chosen.all c.add_all-in-loop-chosen.new.self c.in-Some.chosen.rows.items c.in_ok-add_all-2.ensures.ok,
          );
    }

pub returns : goal.returns
returns c =
    let kept = c.loop-chosen.invariant in
    let all = c.loop-chosen.all in
    let old = c.args.all.now in
    let pool = c.args.self in
    let left = into_iter_items c.loop-chosen.chosen-iterator in
    let none : left ≡ [] = nil_from_length left (sym kept.counted ∙ c.in-None.ensures.steps.0) in
    equal_by_weighings (bag_of all) (merge (bag_of old) (pool_bag pool)) (IsAscending-ascending all.rows.items)
    (IsAscending-merge (bag_of old) (pool_bag pool))
    (λ w.
    omega (
      arith,
      weigh-ascending w all.rows.items,
      kept.weighed w,
      ap (weighs w) none,
      weigh-pool w pool,
      merge_adds_weights w (bag_of old) (pool_bag pool),
      weigh-ascending w old.rows.items,
    ))
