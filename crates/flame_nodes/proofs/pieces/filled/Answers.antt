use Rattle.std.proofs.Common.{◌≡◌, ◌+◌, ◌∙◌, ap, sym, arith, length}
use Rattle.std.specs.Vec.Iter.{into_iter_items}
use Rattle.std.proofs.lemmas.Bool.{eqb-true}
use Rattle.flame_rows.proofs.Cutting.{some_run}
use Rattle.flame_nodes.specs.NodePieces.{node_pieces}
use Rattle.flame_nodes.proofs.NodeLists.{node-empty, node-over}
use Rattle.flame_nodes.proofs.pieces.filled.Goals as goal

pub loop-node-preserved : goal.loop-node-preserved
loop-node-preserved c =
    let agents = c.in-Some.agents in
    let steps = c.in-Some.ensures.steps in
    let none : length agents ≡ 0 = ap length (sym c.rows.ensures.rows) ∙ eqb-true (length c.rows.result.now) 0 (sym c.if-not-is_empty.ensures) in
    node-empty c.args.function (node_pieces c.args.function c.args.bags.items) c.loop-node.pieces.items
    (into_iter_items c.loop-node.node-iterator.iter) (into_iter_items c.next.new.self.iter) c.loop-node.node-iterator.count
    c.next.new.self.count agents steps.0.0 steps.2 c.loop-node.invariant none

pub returns : goal.returns
returns c =
    let it = c.loop-node.node-iterator.iter in
    let none : length (into_iter_items it) ≡ 0 = omega (arith, it.rest.ok.0, c.in-None.ensures.steps.0.0) in
    node-over c.args.function (node_pieces c.args.function c.args.bags.items) c.loop-node.pieces.items (into_iter_items it)
    c.loop-node.node-iterator.count none c.loop-node.invariant
