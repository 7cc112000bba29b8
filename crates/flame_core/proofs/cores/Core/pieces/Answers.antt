use Rattle.std.proofs.Common.{length, ap, ◌∙◌, arith}
use Rattle.flame_events.specs.CoreStates.{status_of, works_of}
use Rattle.flame_core.specs.SeenCores.{Seen}
use Rattle.flame_core.proofs.InOrders.{reached_in_order}
use Rattle.flame_core.proofs.Inside.{seen_of}
use Rattle.flame_core.proofs.cores.Core.pieces.Goals as goal

pub overflow_cast-result : goal.overflow_cast-result
overflow_cast-result c =
    let inside = c.self.inside in
    let seen = seen_of inside.program.now inside.world inside.iteration inside.fuel inside.pieces inside.progress in
    let few = (reached_in_order seen c.self.invariant.reached).few c.args.function in
    omega (arith, few, c.pieces.ensures)

pub returns : goal.returns
returns c = c.pieces.ensures ∙ ap (λ (s : Seen). length (works_of (status_of s.core c.args.function))) c.self.view_is
