-- Whether a core is complete, and that it goes on where it is not.
use Rattle.std.proofs.Common.{sym, ap, ◌∙◌, subst}
use Rattle.flame_events.specs.CoreEnds.{is_complete}
use Rattle.flame_events.specs.EveryOrder.{CanGoOn}
use Rattle.flame_progress.specs.KeptCores.{core_of}
use Rattle.flame_core.specs.SeenCores.{Seen}
use Rattle.flame_core.proofs.Inside.{seen_of}
use Rattle.flame_core.proofs.Comings.{goes_on}
use Rattle.flame_core.proofs.cores.Core.complete.Goals as goal

pub returns-clause-complete : goal.returns-clause-complete
returns-clause-complete c =
    c.is_complete.ensures (core_of c.self.inside.progress) c.self.invariant.ranked
    ∙ ap (λ (s : Seen). is_complete s.source.model s.core) c.self.view_is

pub returns-clause-goes_on : goal.returns-clause-goes_on
returns-clause-goes_on c = λ less.
    let inside = c.self.inside in
    let seen = seen_of inside.program.now inside.world inside.iteration inside.fuel inside.pieces inside.progress in
    subst (λ (s : Seen). CanGoOn s.source.model s.core) c.self.view_is
    (goes_on c.every_order.ensures seen c.source-source.ensures.accepted c.self.invariant.reached
    (sym (c.is_complete.ensures (core_of inside.progress) c.self.invariant.ranked) ∙ less))
