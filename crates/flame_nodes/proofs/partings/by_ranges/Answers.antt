use Rattle.std.proofs.Common.{◌≡◌, ◌+◌, ◌*◌, ◌∙◌, ◌∷◌, [], ◌++◌, ap, arith, drop, drop-drop, length, map, sym, take, ℕ}
use Rattle.std.specs.Int.{div_ceil}
use Rattle.std.specs.List.{range_with_len}
use Rattle.std.proofs.lemmas.List.FromFn.{map-range_with_len_more}
use Rattle.flame_rows.specs.Bags.{ascending}
use Rattle.flame_rows.specs.Sorted.{sorted_by}
use Rattle.flame_world.proofs.Counting.{length-sorted_by}
use Rattle.flame_nodes.specs.Partings.{range_order, run_at}
use Rattle.flame_nodes.proofs.partings.by_ranges.Goals as goal

pub loop-node-preserved : goal.loop-node-preserved
loop-node-preserved c =
    let node : ℕ = c.loop-node._node in
    let size : ℕ = c.div_ceil-size.result in
    let ordered = sorted_by (range_order c.args.column) c.args.takers in
    let old = c.loop-node.invariant in
    let next : (node + 1) * size ≡ node * size + size = grind arith in
    let own : c.gathered.result ≡ ascending (run_at size ordered node) =
    c.gathered.ensures ∙ ap ascending (c.in_ok-run.ensures.run ∙ ap (take size) old.rest) in
    record {
      bags =
          c.in_ok-push.ensures.items
          ∙ (λ i. old.bags i ++ own i ∷ [])
          ∙ sym (map-range_with_len_more (λ number. ascending (run_at size ordered number)) 0 node node (omega arith));
      rest = c.in_ok-run.ensures.rest ∙ ap (drop size) old.rest ∙ drop-drop size (node * size) ordered ∙ ap (λ n. drop n ordered) (sym next);
    }

pub returns : goal.returns
returns c =
    let nodes : ℕ = c.args.nodes in
    let ordered = sorted_by (range_order c.args.column) c.args.takers in
    let rows = c.sorted-rows.result in
    let are : rows.items ≡ ordered = c.sorted-rows.ensures ∙ ap (sorted_by (range_order c.args.column)) c.into_rows.ensures.rows in
    let long : c.len.result ≡ length c.args.takers =
    omega (arith, c.len.ensures, rows.ok.0, ap length are, length-sorted_by (range_order c.args.column) c.args.takers) in
    let size : c.div_ceil-size.result ≡ div_ceil (length c.args.takers) nodes =
    c.div_ceil-size.ensures ∙ ap (λ n. div_ceil n nodes) long in
    let all : c.loop-node._node ≡ nodes = omega (arith, c.loop-node-test.false, c.loop-node.auto._node-end) in
    c.of.ensures
    ∙ c.loop-node.invariant.bags
    ∙ (λ i. map (λ number. ascending (run_at (size i) ordered number)) (range_with_len 0 (all i)))
