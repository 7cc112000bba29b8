-- What a core comes to, whatever the order of its events.
use Rattle.flame_core.proofs.Inside.{seen_of}
use Rattle.flame_core.proofs.Comings.{finished}
use Rattle.flame_core.proofs.cores.Core.finish.Goals as goal

pub returns : goal.returns
returns c =
    let inside = c.self.inside in
    let seen = seen_of inside.program.now inside.world inside.iteration inside.fuel inside.pieces inside.progress in
    finished c.every_order.ensures seen _ c.self.view_is c.source-source.ensures.accepted c.self.invariant.reached c.requires c.ended.result
    c.ended.ensures
