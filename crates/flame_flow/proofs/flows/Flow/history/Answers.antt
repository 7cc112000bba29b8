-- What came of a flow.
use Rattle.std.proofs.Common.{List, sym, subst, ◌∙◌}
use Rattle.flame_events.specs.declared.events.Event.{Event}
use Rattle.flame_events.specs.Histories.{Leads}
use Rattle.flame_core.specs.SeenCores.{round_in, start_in}
use Rattle.flame_flow.specs.SeenFlows.{SeenFlow}
use Rattle.flame_flow.proofs.flows.Flow.history.Goals as goal

pub returns-clause-leads : goal.returns-clause-leads
returns-clause-leads c =
    let told = c.self.inside.going.told in
    subst (λ (s : SeenFlow). Leads (round_in s.seen) s.seen.pieces (start_in s.seen) c.of.result s.seen.core) c.self.view_is
    (subst (λ (h : List Event). Leads (round_in told.seen) told.seen.pieces (start_in told.seen) h told.seen.core) (sym (c.of.ensures ∙ c.in_ok-events.ensures))
    c.program-program.ensures.told.leads)
