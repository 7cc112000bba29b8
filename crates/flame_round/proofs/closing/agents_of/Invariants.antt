use Rattle.std.proofs.Common.{◌≡◌, ◌++◌, length, map}
use Rattle.std.specs.List.{flat_map, zip}
use Rattle.std.specs.Vec.Iter.{into_iter_items, into_iter_len}
use Rattle.std.specs.Iterator.Adapters.{zip_first, zip_second}
use Rattle.flame_rows.specs.Bags.{merge}
use Rattle.flame_field.specs.KeptGatherings.{bag_of, bags_of}
use Rattle.flame_field.specs.KeptPools.{pool_bags, pools_of}
use Rattle.flame_round.proofs.closing.agents_of.Given as goal

abbrev pub invariant-loop-pools : goal.invariant-loop-pools
invariant-loop-pools l =
    let pools = into_iter_items (zip_first l.pools-iterator) in
    let born = into_iter_items (zip_second l.pools-iterator) in
    record {
      first : into_iter_len (zip_first l.pools-iterator) ≡ length pools;
      second : into_iter_len (zip_second l.pools-iterator) ≡ length born;
      all : map (λ (ps, more). merge (flat_map (λ pool. pool) ps) more) (zip (pools_of l.fn.pools) (bags_of l.fn.born))
          ≡ l.bags.items ++ map (λ (ps, more). merge (flat_map (λ pool. pool) ps) more) (zip (map pool_bags pools) (map bag_of born));
    }
