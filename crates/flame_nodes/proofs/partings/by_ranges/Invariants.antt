use Rattle.std.proofs.Common.{◌≡◌, ◌*◌, drop, map}
use Rattle.std.specs.List.{range_with_len}
use Rattle.std.specs.Vec.Iter.{into_iter_items}
use Rattle.flame_rows.specs.Bags.{ascending}
use Rattle.flame_rows.specs.Sorted.{sorted_by}
use Rattle.flame_nodes.specs.Partings.{range_order, run_at}
use Rattle.flame_nodes.proofs.partings.by_ranges.Given as goal

abbrev pub invariant-loop-node : goal.invariant-loop-node
invariant-loop-node l =
    let ordered = sorted_by (range_order l.column) l.fn.takers in
    record {
      bags : l.bags.items ≡ map (λ number. ascending (run_at l.size ordered number)) (range_with_len 0 l._node);
      rest : into_iter_items l.rest ≡ drop (l._node * l.size) ordered;
    }
