use Rattle.std.proofs.Common.{◌≡◌, ◌∙◌, ◌<◌, false, ap, arith, get_or, length, take}
use Rattle.std.proofs.lemmas.List.{take_all, get_or_default}
use Rattle.flame_spec.specs.declared.outcomes.Source.{Source}
use Rattle.flame_spec.specs.Before.{before, function_count}
use Rattle.flame_depend.specs.declared.pairs.Edge.{Edge}
use Rattle.flame_depend.specs.Edges.{edges_of}
use Rattle.flame_core.proofs.Openings.{edge_told, edges_between, edges_tell, is_edge, tells_as}
use Rattle.flame_core.proofs.starting.functions_counted.Goals as goal

pub add-requires-clause-open : goal.add-requires-clause-open
add-requires-clause-open c =
    let model = c.args.program.now.model in
    let items = c.items-edge-items.result.now in
    let k = c.loop-edge.edge-index in
    let none : Edge = record { before = 0; after = 0 } in
    let edge = get_or items k none in
    let same = c.items-edge-items.ensures ∙ c.in_ok-edges.ensures
    ∙ ap (λ (s : Source). edges_of s.model) c.source.ensures.same in
    let less : k < length (edges_of model) = omega (arith, c.loop-edge-test.true, ap length same) in
    let at : edge ≡ get_or (edges_of model) k edge = get_or_default items k none edge c.loop-edge-test.true
    ∙ ap (λ l. get_or l k edge) same in
    c.loop-edge.invariant.which edge.before (edges_between model k edge less at).from

pub add-requires-clause-within : goal.add-requires-clause-within
add-requires-clause-within c =
    let model = c.args.program.now.model in
    let items = c.items-edge-items.result.now in
    let k = c.loop-edge.edge-index in
    let none : Edge = record { before = 0; after = 0 } in
    let edge = get_or items k none in
    let same = c.items-edge-items.ensures ∙ c.in_ok-edges.ensures
    ∙ ap (λ (s : Source). edges_of s.model) c.source.ensures.same in
    let less : k < length (edges_of model) = omega (arith, c.loop-edge-test.true, ap length same) in
    let at : edge ≡ get_or (edges_of model) k edge = get_or_default items k none edge c.loop-edge-test.true
    ∙ ap (λ l. get_or l k edge) same in
    omega (arith, (edges_between model k edge less at).to, c.loop-edge.invariant.many)

pub loop-edge-preserved : goal.loop-edge-preserved
loop-edge-preserved c =
    let model = c.args.program.now.model in
    let items = c.items-edge-items.result.now in
    let k = c.loop-edge.edge-index in
    let none : Edge = record { before = 0; after = 0 } in
    let edge = get_or items k none in
    let same = c.items-edge-items.ensures ∙ c.in_ok-edges.ensures
    ∙ ap (λ (s : Source). edges_of s.model) c.source.ensures.same in
    let less : k < length (edges_of model) = omega (arith, c.loop-edge-test.true, ap length same) in
    let here : edge ≡ get_or items k edge = get_or_default items k none edge c.loop-edge-test.true in
    edge_told (function_count model) items k edge c.loop-edge.waits c.add.new.self c.loop-edge-test.true here
    (edges_between model k edge less (here ∙ ap (λ l. get_or l k edge) same)).from c.in_ok-add.ensures.ok
    c.loop-edge.invariant

pub returns : goal.returns
returns c =
    let model = c.args.program.now.model in
    let n = function_count model in
    let items = c.items-edge-items.result.now in
    let k = c.loop-edge.edge-index in
    let same = c.items-edge-items.ensures ∙ c.in_ok-edges.ensures
    ∙ ap (λ (s : Source). edges_of s.model) c.source.ensures.same in
    let all = take_all k items (omega arith) in
    tells_as n n (λ f g. is_edge (take k items) f g) (before model) (λ f. false) c.loop-edge.waits
    (λ f g less. ap (λ l. is_edge l f g) (all ∙ same) ∙ edges_tell model f g less)
    c.loop-edge.invariant
