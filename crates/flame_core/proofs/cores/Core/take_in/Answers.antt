-- A share comes of which it is known that it can be absorbed.
use Rattle.std.proofs.Common.{◌∙◌, refl, rules, subst, sym, w32, SFits}
use Rattle.std.specs.Prelude.{ℤ}
use Rattle.std.proofs.lemmas.Int.{to_z-of_z}
use Rattle.flame_world.specs.Shares.{piece_of}
use Rattle.flame_events.specs.AbsorbedPieces.{agent_events}
use Rattle.flame_events.specs.EventSteps.{replay}
use Rattle.flame_field.specs.KeptPools.{AreDealt}
use Rattle.flame_progress.specs.KeptCores.{core_of}
use Rattle.flame_round.specs.Choices.{choice_at}
use Rattle.flame_progress.specs.Tallying.{Came}
use Rattle.flame_field.proofs.Written.{on_err}
use Rattle.flame_core.specs.CoreCalls.{CanAbsorb}
use Rattle.flame_core.specs.SeenCores.{Seen, round_in}
use Rattle.flame_core.proofs.Inside.{seen_of, ready_in}
use Rattle.flame_core.proofs.Comings.{reached_fits, seen_so, seen_when, stands_on, stands_still}
use Rattle.flame_core.proofs.TakenIn.{absorbed_so, can_there, leads_on, ranks_stay}
use Rattle.flame_core.proofs.cores.Core.take_in.Goals as goal

pub absorb-requires-clause-can : goal.absorb-requires-clause-can
absorb-requires-clause-can c =
    let inside = c.self.inside in
    let seen = seen_of inside.program.now inside.world inside.iteration inside.fuel inside.pieces inside.progress in
    let fits : SFits w32 inside.iteration = search rules in
    can_there seen _ c.args.share (subst (λ (s : Seen). CanAbsorb s c.args.share) (sym c.self.view_is) c.requires) refl refl
    (to_z-of_z w32 inside.iteration fits) refl

pub absorb-requires-clause-fits : goal.absorb-requires-clause-fits
absorb-requires-clause-fits c =
    let inside = c.self.inside in
    let seen = seen_of inside.program.now inside.world inside.iteration inside.fuel inside.pieces inside.progress in
    reached_fits seen c.self.invariant.reached

pub absorb-requires-clause-outputs : goal.absorb-requires-clause-outputs
absorb-requires-clause-outputs c = c.self.invariant.tallies.outputs

pub invariant_of-self : goal.invariant_of-self
invariant_of-self c =
    let inside = c.self.inside in
    let seen = seen_of inside.program.now inside.world inside.iteration inside.fuel inside.pieces inside.progress in
    let fits : SFits w32 inside.iteration = search rules in
    let done = c.in_err-absorb.ensures.err in
    let kept : Came inside.program.now.model (core_of inside.progress) c.absorb.new.progress inside.counts =
    done inside.pieces inside.counts (ready_in _ inside.world inside.iteration inside.fuel inside.pieces inside.progress inside.counts inside.ranks c.self.invariant refl
    (to_z-of_z w32 inside.iteration fits)) in
    stands_still seen inside.progress c.absorb.new.progress inside.counts inside.counts inside.ranks c.self.invariant kept
    (subst (λ j. AreDealt (choice_at inside.program.now.model j) c.absorb.new.progress.field.pools) (to_z-of_z w32 inside.iteration fits)
    (c.in_err-absorb.ensures.dealt
    (subst (λ j. AreDealt (choice_at inside.program.now.model j) inside.progress.field.pools) (sym (to_z-of_z w32 inside.iteration fits))
    c.self.invariant.dealt)))

pub returns-in_err-absorb-clause-err : goal.returns-in_err-absorb-clause-err
returns-in_err-absorb-clause-err c =
    let inside = c.self.inside in
    let seen = seen_of inside.program.now inside.world inside.iteration inside.fuel inside.pieces inside.progress in
    let fits : SFits w32 inside.iteration = search rules in
    let done = c.in_err-absorb.ensures.err in
    let kept : Came inside.program.now.model (core_of inside.progress) c.absorb.new.progress inside.counts =
    done inside.pieces inside.counts (ready_in _ inside.world inside.iteration inside.fuel inside.pieces inside.progress inside.counts inside.ranks c.self.invariant refl
    (to_z-of_z w32 inside.iteration fits)) in
    on_err c.from_residual.result (seen_so seen (core_of c.absorb.new.progress) kept.core ∙ c.self.view_is)

pub invariant_of-self-2 : goal.invariant_of-self-2
invariant_of-self-2 c =
    let inside = c.self.inside in
    let seen = seen_of inside.program.now inside.world inside.iteration inside.fuel inside.pieces inside.progress in
    let fits : SFits w32 inside.iteration = search rules in
    let can : CanAbsorb seen c.args.share = subst (λ (s : Seen). CanAbsorb s c.args.share) (sym c.self.view_is) c.requires in
    let p = piece_of c.args.share in
    let events = agent_events p.function p.number can.work in
    let core = core_of inside.progress in
    let next = replay (round_in seen) inside.pieces core events in
    let done = c.in_ok-absorb.ensures.ok in
    let P : ℤ → Type 0 = λ j. Came inside.program.now.model (replay (record (round_in seen) { iteration = j }) inside.pieces core events)
    c.absorb.new.progress inside.counts in
    let made : Came inside.program.now.model next c.absorb.new.progress inside.counts =
    subst P (to_z-of_z w32 inside.iteration fits) (done inside.pieces inside.counts can.work (ready_in _ inside.world inside.iteration inside.fuel inside.pieces inside.progress inside.counts inside.ranks c.self.invariant refl
    (to_z-of_z w32 inside.iteration fits)) can.there) in
    stands_on seen inside.progress c.absorb.new.progress inside.counts inside.counts inside.ranks inside.ranks events next c.self.invariant
    (leads_on seen c.args.share (reached_fits seen c.self.invariant.reached) can) made
    (subst (λ j. AreDealt (choice_at inside.program.now.model j) c.absorb.new.progress.field.pools) (to_z-of_z w32 inside.iteration fits)
    (c.in_ok-absorb.ensures.dealt
    (subst (λ j. AreDealt (choice_at inside.program.now.model j) inside.progress.field.pools) (sym (to_z-of_z w32 inside.iteration fits))
    c.self.invariant.dealt)))
    (ranks_stay seen c.args.share (core_of c.absorb.new.progress) inside.ranks (reached_fits seen c.self.invariant.reached) can made.core
    c.self.invariant.ranked)

pub returns-clause-ok : goal.returns-clause-ok
returns-clause-ok c =
    let inside = c.self.inside in
    let seen = seen_of inside.program.now inside.world inside.iteration inside.fuel inside.pieces inside.progress in
    let fits : SFits w32 inside.iteration = search rules in
    let can : CanAbsorb seen c.args.share = subst (λ (s : Seen). CanAbsorb s c.args.share) (sym c.self.view_is) c.requires in
    let p = piece_of c.args.share in
    let events = agent_events p.function p.number can.work in
    let core = core_of inside.progress in
    let next = replay (round_in seen) inside.pieces core events in
    let done = c.in_ok-absorb.ensures.ok in
    let P : ℤ → Type 0 = λ j. Came inside.program.now.model (replay (record (round_in seen) { iteration = j }) inside.pieces core events)
    c.absorb.new.progress inside.counts in
    let made : Came inside.program.now.model next c.absorb.new.progress inside.counts =
    subst P (to_z-of_z w32 inside.iteration fits) (done inside.pieces inside.counts can.work (ready_in _ inside.world inside.iteration inside.fuel inside.pieces inside.progress inside.counts inside.ranks c.self.invariant refl
    (to_z-of_z w32 inside.iteration fits)) can.there) in
    absorbed_so seen c.args.self.now (record seen { core = core_of c.absorb.new.progress }) c.args.share c.self.view_is
    (reached_fits seen c.self.invariant.reached) can
    (seen_when seen events (core_of c.absorb.new.progress) made.core)
