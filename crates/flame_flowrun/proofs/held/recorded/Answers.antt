-- What a flow that is done came to.
use Rattle.std.proofs.Common.{sym, ap, ◌∙◌}
use Rattle.flame_events.specs.CoreEnds.{is_complete}
use Rattle.flame_flowrun.proofs.held.recorded.Goals as goal

pub returns : goal.returns
returns c =
    let flow = c.args.flow in
    let leads = c.in_ok-events.ensures.leads in
    record {
      turn = c.in_ok-turn.ensures;
      legal = leads.legal;
      complete = sym (ap (is_complete flow.seen.source.model) leads.left) ∙ c.requires.1;
    }
