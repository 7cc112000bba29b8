use Rattle.std.proofs.Common.{◌∙◌, ap, arith, map}
use Rattle.std.proofs.lemmas.List.{length-map, take_all}
use Rattle.flame_depend.specs.declared.pairs.Edge.{Edge}
use Rattle.flame_flow.specs.KeptWays.{has_edge}
use Rattle.flame_flow.proofs.Places.{next_more, next_none}
use Rattle.flame_flow.proofs.ways.next_of.Goals as goal

pub loop-edge-init : goal.loop-edge-init
loop-edge-init c =
    next_none c.args.count c.args.edges.now (map (λ list. list.items) c.in_ok-next.next.items)
    (length-map c.in_ok-next.next.items _ ∙ c.in_ok-next.ensures.long) c.in_ok-next.ensures.empty

pub loop-edge-preserved : goal.loop-edge-preserved
loop-edge-preserved c =
    let none : Edge = record { before = 0; after = 0 } in
    next_more c.args.count c.args.edges.now c.loop-edge.edge-index none (map (λ list. list.items) c.loop-edge.next.items) _ c.loop-edge-test.true
    c.in_ok-add.ensures c.loop-edge.invariant

pub returns : goal.returns
returns c = λ f g below.
    c.loop-edge.invariant.has f g below
    ∙ ap (has_edge f g) (take_all c.loop-edge.edge-index c.args.edges.now (omega arith))
