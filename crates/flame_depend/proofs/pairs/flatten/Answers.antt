-- The edges of one list more.
use Rattle.std.proofs.Common.{◌≡◌, suc, ◌+◌, ◌++◌, length, ap, ◌∙◌, arith}
use Rattle.flame_graph.specs.Graph.{follows}
use Rattle.flame_depend.specs.Edges.{edges_to, edges_below}
use Rattle.flame_graph.proofs.Following.{list_is}
use Rattle.flame_depend.proofs.pairs.flatten.Goals as goal

pub loop-i-preserved : goal.loop-i-preserved
loop-i-preserved c =
    let n = length c.args.lists.now in
    let before = follows c.args.lists.now in
    let i = c.loop-i.i in
    let list = list_is c.args.lists.now i c.index-lists-i.result c.numbers.result.now c.requires.ascending c.loop-i-test.true c.index-lists-i.is c.numbers.ensures in
    let more : suc i ≡ i + 1 = omega arith in
    c.in_ok-push_edges.ensures
    ∙ ap (λ es. es ++ edges_to i c.numbers.result.now) c.loop-i.invariant
    ∙ ap (λ ts. edges_below i n before ++ edges_to i ts) list
    ∙ ap (λ k. edges_below k n before) more
