use Rattle.std.proofs.Common.{◌≡◌, ◌++◌, drop, length, map}
use Rattle.std.specs.List.{zip}
use Rattle.std.specs.Vec.Iter.{into_iter_items, into_iter_len}
use Rattle.std.specs.Iterator.Adapters.{zip_first, zip_second}
use Rattle.std.specs.Slice.Iter.{iter_rest}
use Rattle.flame_route.specs.ModelRoutes.{start_place}
use Rattle.flame_world.specs.Fields.{begun}
use Rattle.flame_field.specs.KeptPools.{pools_of}
use Rattle.flame_round.proofs.Dealt.{AllDealt}
use Rattle.flame_round.proofs.opening.pools_begun.Given as goal

abbrev pub invariant-loop-bag : goal.invariant-loop-bag
invariant-loop-bag l =
    let bags = into_iter_items (zip_first l.bag-iterator) in
    let types = l.program.model.agents in
    let left = drop (length l.pools.items) types in
    record {
      counted : into_iter_len (zip_first l.bag-iterator) ≡ length bags;
      starts : iter_rest (zip_second l.bag-iterator) ≡ map start_place left;
      many : length bags ≡ length left;
      begins : map (λ (type, bag). begun type bag) (zip types l.fn.agents)
          ≡ pools_of l.pools ++ map (λ (type, bag). begun type bag) (zip left bags);
      dealt : AllDealt l.pools.items;
    }
