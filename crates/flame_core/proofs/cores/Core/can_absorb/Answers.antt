-- Whether a share can be absorbed.
use Rattle.std.proofs.Common.{refl, rules, subst, sym, w32, SFits}
use Rattle.std.proofs.lemmas.Int.{to_z-of_z}
use Rattle.flame_core.specs.CoreCalls.{CanAbsorb}
use Rattle.flame_core.specs.SeenCores.{Seen}
use Rattle.flame_core.proofs.Inside.{seen_of}
use Rattle.flame_core.proofs.Comings.{reached_fits}
use Rattle.flame_core.proofs.InOrders.{reached_in_order}
use Rattle.flame_core.proofs.TakenIn.{can_here, can_there, fed_of}
use Rattle.flame_core.proofs.cores.Core.can_absorb.Goals as goal

pub can_absorb-requires : goal.can_absorb-requires
can_absorb-requires c =
    let inside = c.self.inside in
    let seen = seen_of inside.program.now inside.world inside.iteration inside.fuel inside.pieces inside.progress in
    let reached = c.self.invariant.reached in
    fed_of inside.program.now.model inside.pieces inside.progress (reached_fits seen reached) (reached_in_order seen reached)

pub returns : goal.returns
returns c =
    let inside = c.self.inside in
    let seen = seen_of inside.program.now inside.world inside.iteration inside.fuel inside.pieces inside.progress in
    let share = c.args.share.now in
    let fits : SFits w32 inside.iteration = search rules in
    let same = to_z-of_z w32 inside.iteration fits in
    let P : Seen → Type 0 = λ s. CanAbsorb s share in (
      λ yes. subst P c.self.view_is (can_here seen _ share (c.can_absorb.ensures.0 yes) refl refl same refl),
      λ can. c.can_absorb.ensures.1 (can_there seen _ share (subst P (sym c.self.view_is) can) refl refl same refl),
    )
