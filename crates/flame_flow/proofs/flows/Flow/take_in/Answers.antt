-- A share that is known to be due comes.
use Rattle.std.proofs.Common.{◌≡◌, ◌<◌, true, refl, sym, ◌∙◌, subst}
use Rattle.std.proofs.lemmas.Bool.{true≢false, lt-ltb, ltb-true}
use Rattle.std.specs.Prelude.{slice_index}
use Rattle.flame_spec.specs.Accepted.{IsAccepted}
use Rattle.flame_world.specs.Shares.{piece_of}
use Rattle.flame_world.specs.declared.pieces.Piece.{Piece}
use Rattle.flame_events.specs.declared.events.Event.TheVariants as event
use Rattle.flame_core.specs.CoreCalls.{allows}
use Rattle.flame_flow.specs.FlowCalls.{CanSettle, NotSettled}
use Rattle.flame_flow.specs.SeenFlows.{SeenFlow}
use Rattle.flame_flow.specs.ToldCores.{ToldCore}
use Rattle.flame_core.proofs.Done.{no_memory_is}
use Rattle.flame_flow.proofs.FlowSteps.{due_absorbs, absorbs_legal}
use Rattle.flame_flow.proofs.flows.Flow.take_in.Goals as goal

pub bring-requires : goal.bring-requires
bring-requires c =
    let flow = c.args.self.now in
    let share = c.args.share in
    let same = c.piece-piece.ensures in
    let long = c.if-not-awaits.ensures.short refl in
    let begun = c.if-not-awaits.ensures.begun refl in
    let legal = c.if-not-awaits.ensures.legal refl in
    let told : ToldCore = record { seen = flow.seen; history = flow.history } in
    let kept = c.ready-ready.ensures.kept in
    let accepted =
    subst (λ (s : SeenFlow). IsAccepted s.seen.source) c.self.view_is (subst IsAccepted c.program.ensures.source c.source-source.ensures.accepted) in
    record {
      long = long;
      begun = lt-ltb (piece_of share).number (slice_index flow.begun (piece_of share).function)
          (subst (λ (p : Piece). p.number < slice_index flow.begun p.function) same begun);
      can = due_absorbs c.names_differ.ensures.messages told share kept.told accepted (kept.whole long) c.requires
          (subst (λ (p : Piece). allows flow.seen (event.Agent p.function p.number) ≡ true) same legal);
    }

pub returns-then-not-awaits-clause-err : goal.returns-then-not-awaits-clause-err
returns-then-not-awaits-clause-err c =
    let flow = c.args.self.now in
    let share = c.args.share in
    let same = c.piece-piece.ensures in
    let told : ToldCore = record { seen = flow.seen; history = flow.history } in
    let kept = c.ready-ready.ensures.kept in (
      λ can.
          let begun = ltb-true (piece_of share).number (slice_index flow.begun (piece_of share).function) can.begun in
          let none = c.if-not-awaits.ensures.not refl can.long
          (subst (λ (p : Piece). p.number < slice_index flow.begun p.function) (sym same) begun) in
          let legal = absorbs_legal told share kept.told (kept.whole can.long) can.can in
          true≢false (sym (subst (λ (p : Piece). allows flow.seen (event.Agent p.function p.number) ≡ true) (sym same) legal) ∙ none),
      refl,
    )

pub returns-in_err-bring-clause-err : goal.returns-in_err-bring-clause-err
returns-in_err-bring-clause-err c =
    let flow = c.args.self.now in
    let share = c.args.share in
    let same = c.piece-piece.ensures in
    let long = c.if-not-awaits.ensures.short refl in
    let begun = c.if-not-awaits.ensures.begun refl in
    let legal = c.if-not-awaits.ensures.legal refl in
    let told : ToldCore = record { seen = flow.seen; history = flow.history } in
    let kept = c.ready-ready.ensures.kept in
    let accepted =
    subst (λ (s : SeenFlow). IsAccepted s.seen.source) c.self.view_is (subst IsAccepted c.program.ensures.source c.source-source.ensures.accepted) in
    let can : CanSettle flow share = record {
      long = long;
      begun = lt-ltb (piece_of share).number (slice_index flow.begun (piece_of share).function)
          (subst (λ (p : Piece). p.number < slice_index flow.begun p.function) same begun);
      can = due_absorbs c.names_differ.ensures.messages told share kept.told accepted (kept.whole long) c.requires
          (subst (λ (p : Piece). allows flow.seen (event.Agent p.function p.number) ≡ true) same legal);
    } in
    no_memory_is c.from_residual.result (NotSettled share flow c.bring.new.self) c.from_residual.ensures.1 (can, c.in_err-bring.ensures.err)
