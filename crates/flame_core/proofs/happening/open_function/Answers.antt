-- A function is opened.
use Rattle.std.proofs.Common.{◌≡◌, ◌<◌, List, Vec, length, map, refl, sym, ap, ◌∙◌, subst, arith, length-set}
use Rattle.std.specs.Global.{Global}
use Rattle.std.specs.Prelude.{ℕ, slice_index_or, slice_set}
use Rattle.std.specs.List.{All}
use Rattle.std.proofs.lemmas.List.{length-map}
use Rattle.flame_meaning.specs.Outcomes.{outputs_at}
use Rattle.flame_rows.specs.Bags.{ascending}
use Rattle.flame_rows.specs.Cuts.{cut}
use Rattle.flame_spec.specs.States.{state_place}
use Rattle.flame_world.specs.Fields.{changed_pool}
use Rattle.flame_world.specs.Iterations.{staying, taking}
use Rattle.flame_events.specs.CoreStates.{Core, Open}
use Rattle.flame_events.specs.EventSteps.{fresh_work}
use Rattle.flame_events.specs.LegalEvents.{outputs_of}
use Rattle.flame_events.proofs.Sound.{can_open}
use Rattle.flame_field.specs.declared.fields.Field.{Field}
use Rattle.flame_field.specs.declared.pools.Pool.{Pool}
use Rattle.flame_field.specs.KeptPools.{pool_bags, pools_of, AreDealt}
use Rattle.flame_field.proofs.Borne.{pools_long}
use Rattle.flame_field.proofs.Written.{on_err}
use Rattle.flame_pieces.specs.declared.statuses.Status as kept
use Rattle.flame_pieces.specs.declared.statuses.Status.TheVariants as is
use Rattle.flame_pieces.specs.KeptWorks.{work_of, outputs_in}
use Rattle.flame_pieces.specs.KeptStatuses.{status_of as kept_status, HasOutputs}
use Rattle.flame_progress.specs.KeptCores.{core_of}
use Rattle.flame_progress.specs.KeptRooms.{AreRoomsFor}
use Rattle.flame_progress.proofs.Tallied.{came_as}
use Rattle.flame_round.specs.Choices.{choice_at, takers_kept}
use Rattle.flame_round.specs.KeptRounds.{round_of, HasRoute}
use Rattle.flame_round.proofs.Stepped.{has-route}
use Rattle.flame_core.proofs.Comings.{core_with, open_is, opened_counted, opened_has, stays_with}
use Rattle.flame_core.proofs.happening.open_function.Goals as goal

pub route_of-route-requires : goal.route_of-route-requires
route_of-route-requires c = (can_open c.args.round.now.program.now.model (core_of c.args.progress.now) c.args.function c.requires.legal).below

pub choose-requires-clause-pools : goal.choose-requires-clause-pools
choose-requires-clause-pools c =
    has-route c.args.round.now.program.now.model c.args.function c.route_of-route.result.now (core_of c.args.progress.now).field
    c.route_of-route.ensures c.requires.ready.fits.field

pub returns-in_err-choose-clause-err : goal.returns-in_err-choose-clause-err
returns-in_err-choose-clause-err c =
    on_err c.from_residual.result
    (stays_with c.args.round.now.program.now.model c.args.progress.now c.args.counts.now c.choose.new.pools c.in_err-choose.ensures.same
    c.requires.ready.tallies)

pub returns-in_err-opening-clause-err : goal.returns-in_err-opening-clause-err
returns-in_err-opening-clause-err c =
    on_err c.from_residual-in_err-opening.result
    (stays_with c.args.round.now.program.now.model c.args.progress.now c.args.counts.now c.choose.new.pools c.in_ok-choose.ensures.same
    c.requires.ready.tallies)

pub count_takers-takers-requires : goal.count_takers-takers-requires
count_takers-takers-requires c =
    let model = c.args.round.now.program.now.model in
    let route = c.route_of-route.result.now in
    let has = has-route model c.args.function route (core_of c.args.progress.now).field c.route_of-route.ensures c.requires.ready.fits.field in
    let P : List (Vec Pool Global) → Type 0 = λ pools. HasRoute (map pool_bags pools) route in
    subst P (sym c.as_slice.ensures.value) (subst (λ pools. HasRoute pools route) (sym c.in_ok-choose.ensures.same) has)

pub leave-takers-requires-clause-pools : goal.leave-takers-requires-clause-pools
leave-takers-requires-clause-pools c =
    let model = c.args.round.now.program.now.model in
    let route = c.route_of-route.result.now in
    let has = has-route model c.args.function route (core_of c.args.progress.now).field c.route_of-route.ensures c.requires.ready.fits.field in
    subst (λ pools. HasRoute pools route) (sym c.in_ok-choose.ensures.same) has

pub start-requires : goal.start-requires
start-requires c =
    let model = c.args.round.now.program.now.model in
    let can = can_open model (core_of c.args.progress.now) c.args.function c.requires.legal in
    omega (arith, can.below, c.requires.ready.tallies.functions)

pub returns-clause-ok : goal.returns-clause-ok
returns-clause-ok c =
    let round = round_of c.args.round.now in
    let model = c.args.round.now.program.now.model in
    let f = c.args.function in
    let progress = c.args.progress.now in
    let core = core_of progress in
    let counts = c.args.counts.now in
    let route = c.route_of-route.result.now in
    let goes = c.route_of-route.ensures in
    let place = goes.place in
    let can = can_open model core f c.requires.legal in
    let left = c.leave-takers.new.pools in
    let dealt = c.in_ok-choose.ensures.dealt c.requires.ready.dealt in
    let from = state_place place.type place.function.current in
    let pools : pools_of left ≡ changed_pool place.agent from (staying round f place) core.field.pools =
    c.leave-takers.ensures.others round f place goes goes.there dealt
    ∙ ap (changed_pool place.agent from (staying round f place)) c.in_ok-choose.ensures.same in
    let takers : ascending c.leave-takers.result.items ≡ taking round f place core.field =
    c.leave-takers.ensures.takers round f place core.field goes goes.there dealt (sym c.in_ok-choose.ensures.same) in
    let outputs = c.items.ensures ∙ goes.routed.outputs in
    let fits : AreRoomsFor c.items.result.now (length c.leave-takers.result.items) c.args.pieces c.in_ok-opening.opening =
    subst (λ n. AreRoomsFor c.items.result.now n c.args.pieces c.in_ok-opening.opening)
    (c.count_takers-takers.ensures ∙ ap (takers_kept route) c.as_slice.ensures.value ∙ sym c.leave-takers.ensures.count) c.in_ok-opening.ensures.fits in
    let works = c.fill.ensures.works c.items.result.now c.args.pieces fits
    ∙ (λ i. map (fresh_work (outputs i)) (cut c.args.pieces (ascending c.leave-takers.result.items))) in
    let less : f < length progress.statuses.items = omega (arith, can.below, c.requires.ready.tallies.functions) in
    let own : All (λ work. outputs_in work ≡ outputs_of model f) c.fill.result.items =
    λ k d within. c.fill.ensures.outputs c.items.result.now c.args.pieces fits k d within ∙ outputs ∙ ap (λ o. outputs_at o model) (sym goes.there) in
    let moved = core_with progress left (pools_of left) refl
    (pools_long progress.field.pools left place.agent from (staying round f place) pools) in
    let next : Core = record core {
      statuses = slice_set core.statuses f (Open (map work_of c.fill.result.items));
      field = record core.field { pools = pools_of left };
    } in
    let reached : core_of c.start.new.self ≡ next =
    c.start.ensures.core ∙ ap (λ (k : Core). record k { statuses = slice_set k.statuses f (Open (map work_of c.fill.result.items)) }) moved in
    let made = came_as model progress c.start.new.self counts counts next reached (length-set core.statuses f _) refl
    (let P : List kept.Status → Type 0 = λ l. (g : ℕ) → HasOutputs (outputs_of model g) (slice_index_or l g is.Waiting) in
    subst P (sym c.start.ensures.statuses)
    (opened_has progress.statuses.items f c.fill.result (outputs_of model) less own c.requires.ready.tallies.outputs))
    c.requires.ready.tallies
    (opened_counted model core next counts f (map work_of c.fill.result.items)
    (omega (arith, less, length-map progress.statuses.items kept_status)) can.waits refl refl c.requires.ready.tallies.counted) in
    record {
      core =
          made.core
          ∙ open_is round c.args.pieces f place core (map work_of c.fill.result.items) (ascending c.leave-takers.result.items) (pools_of left)
          goes.there works takers pools;
      tallies = made.tallies;
    }

pub returns-in_err-choose-clause-dealt : goal.returns-in_err-choose-clause-dealt
returns-in_err-choose-clause-dealt c = c.in_err-choose.ensures.dealt c.requires.ready.dealt

pub returns-in_err-opening-clause-dealt : goal.returns-in_err-opening-clause-dealt
returns-in_err-opening-clause-dealt c = c.in_ok-choose.ensures.dealt c.requires.ready.dealt

pub returns-clause-dealt : goal.returns-clause-dealt
returns-clause-dealt c =
    let choose = choice_at c.args.round.now.program.now.model c.args.round.now.iteration in
    subst (λ (field : Field). AreDealt choose field.pools) (sym c.start.ensures.field)
    (c.leave-takers.ensures.dealt choose (c.in_ok-choose.ensures.dealt c.requires.ready.dealt))
