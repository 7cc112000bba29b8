use Rattle.std.proofs.Common.{◌≡◌, ◌++◌, length}
use Rattle.std.specs.List.{flat_map}
use Rattle.std.specs.Vec.Iter.{into_iter_items, into_iter_len}
use Rattle.flame_pool.proofs.pools.turn_over.Given as goal

abbrev pub invariant-loop-pool : goal.invariant-loop-pool
invariant-loop-pool l = record {
  counted : into_iter_len l.pool-iterator ≡ length (into_iter_items l.pool-iterator);
  joined : l.fn.born ++ flat_map (λ pool. pool) l.fn.pools
      ≡ l.rows.items ++ flat_map (λ pool. pool) (into_iter_items l.pool-iterator);
}
