use Rattle.std.proofs.Common.{◌≡◌, ◌∙◌, ◌<◌, ap, length, map, sym, subst, [], List}
use Rattle.std.specs.Prelude.{ℤ, Option, slice_index_or}
use Rattle.std.specs.List.{All}
use Rattle.std.proofs.lemmas.List.{length-map}
use Rattle.std.proofs.lemmas.Slice.Zip.{AllZip-long}
use Rattle.flame_rows.specs.Order.{row_order}
use Rattle.flame_spec.specs.Columns.{width}
use Rattle.flame_spec.specs.Functions.{Place}
use Rattle.flame_spec.specs.States.{state_place}
use Rattle.flame_meaning.proofs.Eachs.{each_sorted-back}
use Rattle.flame_index.specs.FrozenBoards.{shared_messages}
use Rattle.flame_world.specs.AgentRuns.{births_of}
use Rattle.flame_world.specs.Fields.{Field as Standing, changed_pool, joined}
use Rattle.flame_world.specs.Iterations.{staying}
use Rattle.flame_world.specs.WorldFits.{AreWide}
use Rattle.flame_field.specs.KeptBoards.{board_bag}
use Rattle.flame_field.specs.KeptFields.{field_of}
use Rattle.flame_field.proofs.Borne.{pools_long}
use Rattle.flame_round.specs.Choices.{choice_at}
use Rattle.flame_round.specs.KeptRounds.{HasRoute, round_of}
use Rattle.flame_round.proofs.NamedNumbers.{numbers-within}
use Rattle.flame_round.proofs.Stepped.{frozen-named, frozen-wide, has-route, takers-wide}
use Rattle.flame_layers.specs.LayerFields.{left_at, takers_at}
use Rattle.flame_layerrun.proofs.openings.open.Goals as goal

pub choose_all-requires-clause-pools : goal.choose_all-requires-clause-pools
choose_all-requires-clause-pools g c κs within =
    has-route c.args.round.now.program.now.model c.args.ranked.function c.route_of-route.result.now (field_of c.args.field.now)
    c.route_of-route.ensures c.requires.fits

pub leave-takers-requires-clause-pools : goal.leave-takers-requires-clause-pools
leave-takers-requires-clause-pools g c =
    subst (λ (pools : List (List (List (List ℤ)))). HasRoute pools c.route_of-route.result.now) (sym c.in_ok-choose_all.ensures.same)
    (has-route c.args.round.now.program.now.model c.args.ranked.function c.route_of-route.result.now (field_of c.args.field.now)
    c.route_of-route.ensures c.requires.fits)

pub share-requires : goal.share-requires
share-requires g c =
    let model = c.args.round.now.program.now.model in
    let goes = c.route_of-route.ensures in
    let all = numbers-within model goes.place.function.inputs c.route_of-route.result.now.inputs goes.routed.inputs in
    let count : length model.messages ≡ length c.args.field.now.boards.items =
    (sym (AllZip-long _ model.messages (map board_bag c.args.field.now.boards.items) c.requires.fits.boards))
    ∙ length-map c.args.field.now.boards.items board_bag in
    subst (λ n. All (λ number. number < n) c.items.result.now) count
    (subst (λ list. All (λ number. number < length model.messages) list) (sym c.items.ensures) all)

pub returns-clause-takers : goal.returns-clause-takers
returns-clause-takers g c =
    let round = round_of c.args.round.now in
    let function = c.args.ranked.function in
    let field = field_of c.args.field.now in
    let goes = c.route_of-route.ensures in
    c.leave-takers.ensures.takers round function goes.place field goes goes.there
    (c.in_ok-choose_all.ensures.dealt c.requires.dealt) (sym c.in_ok-choose_all.ensures.same)
    ∙ sym (ap (λ (p : Option Place). takers_at p round function field) goes.there)

pub returns-clause-boards : goal.returns-clause-boards
returns-clause-boards g c =
    let source = c.args.round.now.program.now in
    let goes = c.route_of-route.ensures in
    let all = map board_bag c.args.field.now.boards.items in
    let read = c.in_ok-boards.ensures.read ∙ ap (map (λ message. slice_index_or all message [])) c.items.ensures in
    ap (map shared_messages) c.of.ensures
    ∙ frozen-named source c.args.ranked.function goes.place c.route_of-route.result.now.inputs all _ goes.there goes.routed.inputs read

pub returns-clause-fits : goal.returns-clause-fits
returns-clause-fits g c =
    let model = c.args.round.now.program.now.model in
    let round = round_of c.args.round.now in
    let function = c.args.ranked.function in
    let goes = c.route_of-route.ensures in
    let wide = width goes.place.type.memory in
    let all = map board_bag c.args.field.now.boards.items in
    let read = ap (map shared_messages) c.of.ensures
    ∙ c.in_ok-boards.ensures.read ∙ ap (map (λ message. slice_index_or all message [])) c.items.ensures in
    let whole = c.leave-takers.ensures.takers round function goes.place (field_of c.args.field.now) goes goes.there
    (c.in_ok-choose_all.ensures.dealt c.requires.dealt) (sym c.in_ok-choose_all.ensures.same) in
    record {
      place = goes.place;
      there = goes.there;
      memories =
          each_sorted-back (λ (row : List ℤ). length row ≡ wide) row_order c.leave-takers.result.items
          (subst (λ (agents : List (List ℤ)). AreWide wide agents) (sym whole)
          (takers-wide round function goes.place (field_of c.args.field.now) goes.there c.requires.fits));
      known = c.requires.known;
      wide = frozen-wide model goes.place c.route_of-route.result.now.inputs all _ c.requires.fits.boards goes.routed.inputs read;
    }

pub returns-clause-field : goal.returns-clause-field
returns-clause-field g c =
    let round = round_of c.args.round.now in
    let function = c.args.ranked.function in
    let field = field_of c.args.field.now in
    let goes = c.route_of-route.ensures in
    let pools = c.leave-takers.ensures.others round function goes.place goes goes.there (c.in_ok-choose_all.ensures.dealt c.requires.dealt)
    ∙ ap (changed_pool goes.place.agent (state_place goes.place.type goes.place.function.current) (staying round function goes.place))
    c.in_ok-choose_all.ensures.same in
    let born = ap (joined (births_of c.args.field.now.born.items)) (pools_long c.args.field.now.pools c.leave-takers.new.pools _ _ _ pools) in
    let after : Standing = record {
      pools = changed_pool goes.place.agent (state_place goes.place.type goes.place.function.current) (staying round function goes.place) field.pools;
      born = field.born;
      boards = field.boards;
    } in
    let same : field_of (record { pools = c.leave-takers.new.pools; born = c.args.field.now.born; boards = c.share.new.boards }) ≡ after =
    λ i. record { pools = pools i; born = born i; boards = c.in_ok-boards.ensures.bags i } in
    same ∙ sym (ap (λ (p : Option Place). left_at p round function field) goes.there)

pub returns-clause-dealt : goal.returns-clause-dealt
returns-clause-dealt g c =
    c.leave-takers.ensures.dealt (choice_at c.args.round.now.program.now.model c.args.round.now.iteration)
    (c.in_ok-choose_all.ensures.dealt c.requires.dealt)
