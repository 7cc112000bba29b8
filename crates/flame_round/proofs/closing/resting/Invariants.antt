use Rattle.std.proofs.Common.{◌≡◌, length, map}
use Rattle.std.specs.List.{flat_map}
use Rattle.std.specs.Vec.Iter.{into_iter_items, into_iter_len}
use Rattle.flame_rows.specs.Bags.{merge, merge_all}
use Rattle.flame_field.specs.KeptGatherings.{bag_of}
use Rattle.flame_field.specs.KeptPools.{pool_bag, pool_bags}
use Rattle.flame_round.proofs.closing.resting.Given as goal

abbrev pub invariant-loop-pool : goal.invariant-loop-pool
invariant-loop-pool l = record {
  counted : into_iter_len l.pool-iterator ≡ length (into_iter_items l.pool-iterator);
  all : merge_all (pool_bags l.fn.pools)
      ≡ merge (bag_of l.all) (flat_map (λ pool. pool) (map pool_bag (into_iter_items l.pool-iterator)));
}
