-- What a worker may do.
use Rattle.std.proofs.Common.{◌≡◌, false, sym, ap, ◌∙◌}
use Rattle.flame_core.specs.SeenCores.{round_in}
use Rattle.flame_events.specs.CoreEnds.{is_complete}
use Rattle.flame_flow.specs.SeenFlows.{SeenFlow}
use Rattle.flame_flow.proofs.Readiness.{begun_where_idle}
use Rattle.flame_flow.proofs.Tellings.{told_known}
use Rattle.flame_flow.proofs.flows.Flow.ready.Goals as goal

pub returns-in-None-clause-ready : goal.returns-in-None-clause-ready
returns-in-None-clause-ready c =
    let flow = c.args.self.now in
    let seen = flow.seen in
    let long : flow.short ≡ false = sym c.if-is_short.ensures.is in
    let kept = c.is_short.ensures.kept in
    let on : is_complete seen.source.model seen.core ≡ false =
    ap (λ (s : SeenFlow). is_complete s.seen.source.model s.seen.core) (sym c.self.view_is) ∙ sym c.if-is_complete.ensures in
    let none = sym (c.in-None.ensures long) in (
      long,
      on,
      none,
      begun_where_idle (round_in seen) seen.pieces seen.core (told_known (record { seen = seen; history = flow.history }) kept.told).led
          (kept.whole long) flow.begun (kept.quiet long) on none,
    )
