-- The way back, turned round again, is the cycle of calls.
use Rattle.std.proofs.Common.{not, ap, ◌∙◌, reverse, length}
use Rattle.flame_spec.specs.Below.{is_in}
use Rattle.flame_spec.specs.ModelOrder.{order, begun_with_least}
use Rattle.flame_spec.proofs.FirstBelow.{first_is_first}
use Rattle.flame_graph.specs.Graph.{follows}
use Rattle.flame_calls.proofs.Outcomes.{cycle_is}
use Rattle.flame_calls.proofs.judging.meet_cycle.Goals as goal

pub walk_back-requires-clause-start : goal.walk_back-requires-clause-start
walk_back-requires-clause-start c =
    let n = length c.args.lists.now in
    let before = follows c.args.lists.now in
    (first_is_first (λ g. not (is_in g (order n before))) n c.args.start c.requires.start).below

pub returns : goal.returns
returns c =
    let n = length c.args.lists.now in
    let before = follows c.args.lists.now in
    c.begin_with_least.ensures
    ∙ ap begun_with_least (c.reverse.ensures.items ∙ ap reverse c.in_ok-cycle.ensures)
    ∙ cycle_is n before c.args.start c.requires.start
