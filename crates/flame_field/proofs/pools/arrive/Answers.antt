use Rattle.std.proofs.Common.{◌∙◌, List, [], length, ap, arith}
use Rattle.std.specs.Prelude.{ℤ, slice_index_or}
use Rattle.std.proofs.lemmas.Result.{on_ok_weaker, on_err_weaker}
use Rattle.flame_rows.specs.Bags.{ascending, merge}
use Rattle.flame_field.specs.KeptPools.{pool_bag, pools_of}
use Rattle.flame_field.proofs.Changed.{changed_pool-back, changed_pool-still, changed_pool-length}
use Rattle.flame_field.proofs.pools.arrive.Goals as goal

pub exchange-requires : goal.exchange-requires
exchange-requires c =
    let pools = pools_of c.args.pools.now in
    omega (
      arith,
      c.requires,
      ap (λ l. length (slice_index_or l c.args.agent [])) c.exchange-pool.ensures.put,
      changed_pool-length c.args.agent c.args.state (λ old. pool_bag c.empty.result) pools c.args.agent,
    )

pub returns-clause-ok : goal.returns-clause-ok
returns-clause-ok c =
    on_ok_weaker c.add_all-arrived.result
    (λ added.
    changed_pool-back c.args.agent c.args.state (pool_bag c.empty.result) (pool_bag c.add_all-arrived.new.self) (pools_of c.args.pools.now)
    (pools_of c.exchange-pool.new.pools) (pools_of c.exchange.new.pools) (λ pool. merge pool (ascending c.args.rows.items))
    c.exchange-pool.ensures.put c.exchange.ensures.put
    (added ∙ ap (λ (pool : List (List ℤ)). merge pool (ascending c.args.rows.items)) c.exchange-pool.ensures.back))
    c.add_all-arrived.ensures.ok

pub returns-clause-err : goal.returns-clause-err
returns-clause-err c =
    on_err_weaker c.add_all-arrived.result
    (λ kept.
    changed_pool-back c.args.agent c.args.state (pool_bag c.empty.result) (pool_bag c.add_all-arrived.new.self) (pools_of c.args.pools.now)
    (pools_of c.exchange-pool.new.pools) (pools_of c.exchange.new.pools) (λ pool. pool)
    c.exchange-pool.ensures.put c.exchange.ensures.put (kept ∙ c.exchange-pool.ensures.back)
    ∙ changed_pool-still c.args.agent c.args.state (pools_of c.args.pools.now))
    c.add_all-arrived.ensures.err

pub returns-clause-dealt : goal.returns-clause-dealt
returns-clause-dealt c choose dealt =
    c.exchange.ensures.stay_dealt choose
    (c.exchange-pool.ensures.stay_dealt choose dealt (c.empty.ensures.dealt (choose c.args.agent c.args.state)))
    (c.add_all-arrived.ensures.dealt (choose c.args.agent c.args.state) (c.exchange-pool.ensures.dealt choose dealt))
