use Rattle.std.proofs.Common.{arith}
use Rattle.flame_rows.specs.Bags.{ascending, merge}
use Rattle.flame_rows.proofs.BagLaws.{equal_by_weighings, IsAscending-merge, merge_adds_weights, weigh-ascending}
use Rattle.flame_field.specs.declared.pools.Pool.{Pool}
use Rattle.flame_field.specs.KeptPools.{pool_bag}
use Rattle.flame_field.proofs.Dealing.{pool-up, weigh-pool, weigh-added}
use Rattle.flame_field.proofs.pools.Pool.add_all.Goals as goal

pub returns-clause-ok : goal.returns-clause-ok
returns-clause-ok c =
    let old = c.args.self.now in
    let new : Pool = record { fresh = c.add_all.new.self; chosen = old.chosen } in
    let rows = c.args.rows.items in
    equal_by_weighings (pool_bag new) (merge (pool_bag old) (ascending rows)) (pool-up new) (IsAscending-merge (pool_bag old) (ascending rows))
    (λ w.
    omega (
      arith,
      weigh-pool w new,
      weigh-pool w old,
      weigh-added w old.fresh c.add_all.new.self rows c.in_ok-add_all.ensures.ok,
      merge_adds_weights w (pool_bag old) (ascending rows),
      weigh-ascending w rows,
    ))
