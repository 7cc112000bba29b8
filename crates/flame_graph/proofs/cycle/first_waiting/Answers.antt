-- The first one that passes.
use Rattle.std.proofs.Common.{get_or, ap, sym, not}
use Rattle.std.proofs.lemmas.Bool.{ne_eqb}
use Rattle.flame_spec.proofs.FirstBelow.{first_is, none_fails}
use Rattle.flame_graph.specs.Graph.{waits}
use Rattle.std.proofs.Common.{length}
use Rattle.flame_graph.proofs.cycle.first_waiting.Goals as goal

pub returns-then-open-ne0 : goal.returns-then-open-ne0
returns-then-open-ne0 c =
    let ws = c.args.waiting.now in
    let g = c.loop-g.g in
    sym (first_is (waits ws) (length ws) g c.loop-g-test.true (ap not (ne_eqb (get_or ws g 0) 0 c.if-open-ne0.true)) (none_fails (waits ws) g c.loop-g.invariant))
