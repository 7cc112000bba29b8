-- A share is taken in.
use Rattle.std.proofs.Common.{◌≡◌, ◌∙◌, Some, ap, length, map, refl, subst, sym}
use Rattle.std.specs.Prelude.{ℕ}
use Rattle.std.proofs.lemmas.List.{length-map}
use Rattle.flame_rows.specs.Bags.{ascending, merge}
use Rattle.flame_rows.proofs.BagLaws.{ascending-IsAscending}
use Rattle.flame_world.specs.declared.pieces.Part.{Part}
use Rattle.flame_world.specs.declared.pieces.Piece.{Piece}
use Rattle.flame_world.specs.AgentRuns.{births_of}
use Rattle.flame_world.specs.Fields.{changed_pool, joined}
use Rattle.flame_world.specs.Shares.{piece_of}
use Rattle.flame_events.specs.CoreStates.{Core, work_of}
use Rattle.flame_events.specs.EventSteps.{with_work}
use Rattle.flame_events.specs.LegalEvents.{outputs_of}
use Rattle.flame_progress.specs.declared.counts.Counts.{Counts}
use Rattle.flame_progress.specs.declared.leavings.PartedLeaving.{PartedLeaving}
use Rattle.flame_progress.specs.KeptCores.{core_of, kept_at}
use Rattle.flame_progress.specs.KeptWorkEvents.{added}
use Rattle.flame_progress.specs.Tallying.{Came}
use Rattle.flame_progress.proofs.Tallied.{came}
use Rattle.flame_field.proofs.Written.{on_err}
use Rattle.flame_core.specs.KeptReady.{Ready}
use Rattle.flame_round.specs.Choices.{choice_at}
use Rattle.flame_round.specs.KeptRounds.{GoesBy}
use Rattle.flame_round.proofs.Stepped.{has-route}
use Rattle.flame_core.proofs.Comings.{fit_outputs}
use Rattle.flame_core.proofs.TakenIn.{piece_below, share_long, taken_in}
use Rattle.flame_core.proofs.absorbing.absorb.Goals as goal

pub route_of-route-requires : goal.route_of-route-requires
route_of-route-requires c =
    let model = c.args.round.now.program.now.model in
    let core = core_of c.args.progress.now in
    let p = c.piece.result.now in
    piece_below model core p.function p.number c.requires.can.work c.requires.fits
    (ap (λ (q : Piece). work_of core q.function q.number) c.piece.ensures ∙ c.requires.can.there)

pub settle-requires-clause-parts : goal.settle-requires-clause-parts
settle-requires-clause-parts c =
    let model = c.args.round.now.program.now.model in
    let progress = c.args.progress.now in
    let p = piece_of c.args.share in
    let function : c.piece.result.now.function ≡ p.function = ap (λ (q : Piece). q.function) c.piece.ensures in
    let parts = c.in_ok-parts.parts in
    let long : length parts.items ≡ length (outputs_of model p.function) =
    sym (length-map parts.items (λ rows. rows.items))
    ∙ ap length (c.in_ok-parts.ensures ∙ ap (map (λ (part : Part). part.rows)) c.into_items.ensures)
    ∙ length-map c.split-rest.result.1 (λ (part : Part). part.rows)
    ∙ share_long c.args.round.now (core_of progress) c.args.share c.split-rest.result.0 c.split-rest.result.1 c.requires.can
    c.split-rest.ensures.meant in
    fit_outputs (outputs_of model c.piece.result.now.function) (length parts.items) (kept_at progress c.piece.result.now.function)
    (long ∙ ap (λ f. length (outputs_of model f)) (sym function)) (c.requires.outputs c.piece.result.now.function)

pub settle-requires-clause-there : goal.settle-requires-clause-there
settle-requires-clause-there c =
    (has-route c.args.round.now.program.now.model c.piece.result.now.function c.route_of-route.result.now (core_of c.args.progress.now).field
    c.route_of-route.ensures c.requires.fits.field).to

pub returns-in_err-settle-clause-err : goal.returns-in_err-settle-clause-err
returns-in_err-settle-clause-err c =
    let model = c.args.round.now.program.now.model in
    let progress = c.args.progress.now in
    let kept : (pieces : ℕ) (counts : Counts) → Ready c.args.round.now pieces progress counts → Came model (core_of progress) c.settle.new.self counts =
    λ pieces counts ready.
    came model progress c.settle.new.self counts counts (core_of progress) c.in_err-settle.ensures.err refl refl
    (λ g has. c.in_err-settle.ensures.outputs g (outputs_of model g) has) ready.tallies ready.tallies.counted in
    on_err c.from_residual-in_err-settle.result kept

pub returns-clause-ok : goal.returns-clause-ok
returns-clause-ok c = λ pieces counts work ready there.
    let round = c.args.round.now in
    let model = round.program.now.model in
    let progress = c.args.progress.now in
    let core = core_of progress in
    let p = piece_of c.args.share in
    let route = c.route_of-route.result.now in
    let left : PartedLeaving = record {
      ran = length c.rows-ran.result.now;
      survivors = c.into_rows.result;
      parts = c.in_ok-parts.parts;
      born = c.into_items-2.result;
      fault = c.split-rest.result.0.fault;
    } in
    let made : ℕ → ℕ → Core = λ f k. record core {
      statuses = with_work core f k (added left work);
      field = record core.field {
        pools = changed_pool route.agent route.to (λ pool. merge pool (ascending left.survivors.items)) core.field.pools;
        born = joined (births_of left.born.items) core.field.born;
      };
    } in
    let function : c.piece.result.now.function ≡ p.function = ap (λ (q : Piece). q.function) c.piece.ensures in
    let number : c.piece-2.result.now.number ≡ p.number = ap (λ (q : Piece). q.number) c.piece-2.ensures in
    let own : work_of core c.piece.result.now.function c.piece-2.result.now.number ≡ Some work = (λ i. work_of core (function i) (number i)) ∙ there in
    let is : core_of c.settle.new.self ≡ made p.function p.number =
    c.in_ok-settle.ensures.ok work own ∙ (λ i. made (function i) (number i)) in
    let goes : GoesBy model p.function route = subst (λ f. GoesBy model f route) function c.route_of-route.ensures in
    taken_in round pieces progress c.settle.new.self counts c.args.share route left work c.split-rest.result.0 c.split-rest.result.1
    goes ready c.requires.can there c.split-rest.ensures.meant
    (ap length (c.rows-ran.ensures.rows ∙ ap (λ (q : Piece). q.agents) c.piece-3.ensures))
    (ap ascending c.into_rows.ensures.rows ∙ ascending-IsAscending c.split-rest.result.0.survivors c.into_rows.ensures.order)
    (c.in_ok-parts.ensures ∙ ap (map (λ (part : Part). part.rows)) c.into_items.ensures)
    c.into_items-2.ensures refl is c.in_ok-settle.ensures.outputs

pub returns-in_err-settle-clause-dealt : goal.returns-in_err-settle-clause-dealt
returns-in_err-settle-clause-dealt c = λ dealt.
    c.in_err-settle.ensures.dealt (choice_at c.args.round.now.program.now.model c.args.round.now.iteration) dealt

pub returns-clause-dealt : goal.returns-clause-dealt
returns-clause-dealt c = λ dealt.
    c.in_ok-settle.ensures.dealt (choice_at c.args.round.now.program.now.model c.args.round.now.iteration) dealt
