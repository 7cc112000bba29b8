use Rattle.std.proofs.Common.{◌≡◌, ◌<◌, length, None, Some, refl, sym, ap, ◌∙◌, subst}
use Rattle.flame_spec.specs.Columns.{width}
use Rattle.flame_world.specs.WorldFits.{AreWide}
use Rattle.flame_events.specs.CoreFits.{FitsCore, FitsWork}
use Rattle.flame_events.specs.CoreStates.{status_of, work_of, works_of}
use Rattle.flame_pieces.specs.KeptWorks.{work_of as kept_work}
use Rattle.flame_core.specs.SeenCores.{Seen}
use Rattle.flame_core.proofs.Inside.{seen_of}
use Rattle.flame_core.proofs.Comings.{reached_fits}
use Rattle.flame_round.proofs.Gets.{has-at}
use Rattle.flame_core.proofs.cores.Core.piece.Goals as goal
use Rattle.flame_meaning.proofs.Eachs.{each_at}

pub returns-clause-is : goal.returns-clause-is
returns-clause-is c = record {
  work = kept_work c.in-Some.work.now;
  there = ap (λ (s : Seen). work_of s.core c.args.function c.args.piece) (sym c.self.view_is) ∙ sym c.in-Some.ensures.work;
  function_is = refl;
  number_is = refl;
  agents = c.in_ok-copy-in-Some.ensures;
}

pub returns-clause-wide : goal.returns-clause-wide
returns-clause-wide c = λ place at.
    let inside = c.self.inside in
    let seen = seen_of inside.program.now inside.world inside.iteration inside.fuel inside.pieces inside.progress in
    let fits = subst (λ (s : Seen). FitsCore s.source.model s.core) c.self.view_is (reached_fits seen c.self.invariant.reached) in
    let there = ap (λ (s : Seen). work_of s.core c.args.function c.args.piece) (sym c.self.view_is) ∙ sym c.in-Some.ensures.work in
    let work = each_at (FitsWork c.args.self.now.source.model c.args.function place.type) (works_of (status_of c.args.self.now.core c.args.function))
    c.args.piece (kept_work c.in-Some.work.now) (fits.works c.args.function place at) there in
    subst (AreWide (width place.type.memory)) (sym c.in_ok-copy-in-Some.ensures) work.agents

pub unreachable-requires : goal.unreachable-requires
unreachable-requires c =
    let works = λ (s : Seen). works_of (status_of s.core c.args.function) in
    let P : Seen → Type 0 = λ s. c.args.piece < length (works s) in
    let there = has-at _ c.args.piece (subst P (sym c.self.view_is) c.requires) in
    let never : None ≡ Some there.item = c.in-None.ensures.work ∙ there.there in
    absurd cc
