use Rattle.std.proofs.Common.{◌≡◌, ◌∙◌, ◌<◌, ap, arith, length, map, refl, sym, subst, [], List, None}
use Rattle.std.specs.Prelude.{ℤ, slice_index_or}
use Rattle.std.specs.List.{All}
use Rattle.std.proofs.lemmas.List.{length-map}
use Rattle.std.proofs.lemmas.Slice.Zip.{AllZip-long}
use Rattle.flame_rows.specs.Bags.{ascending}
use Rattle.flame_rows.proofs.Merging.{ascending-ascending}
use Rattle.flame_rows.proofs.Truths.{is_some-false}
use Rattle.flame_spec.specs.Columns.{width}
use Rattle.flame_spec.specs.declared.outcomes.Outcome.{Outcome}
use Rattle.flame_spec.specs.declared.outcomes.Sent.{Sent}
use Rattle.flame_spec.specs.States.{state_place}
use Rattle.flame_events.specs.LegalEvents.{outputs_of}
use Rattle.flame_orders.proofs.SentOutputs.{sends_to_outputs}
use Rattle.flame_world.specs.AgentRuns.{births_of, sent_from}
use Rattle.flame_world.specs.Fields.{Field as Standing, joined}
use Rattle.flame_world.specs.Iterations.{outcome_in, staying, taking, unless_faulted}
use Rattle.flame_world.specs.WorldFits.{AreWide}
use Rattle.flame_field.specs.KeptBoards.{board_bag}
use Rattle.flame_field.specs.KeptFields.{field_of}
use Rattle.flame_field.specs.KeptPools.{pools_of}
use Rattle.flame_field.proofs.Borne.{pools_long}
use Rattle.flame_field.proofs.Changed.{changed_pool-length}
use Rattle.flame_round.specs.Choices.{choice_at}
use Rattle.flame_round.specs.KeptRounds.{round_of}
use Rattle.flame_round.proofs.LeftRows.{sent-within}
use Rattle.flame_round.proofs.NamedNumbers.{numbers-within}
use Rattle.flame_round.proofs.Stepped.{frozen-named, frozen-wide, has-route, takers-wide}
use Rattle.flame_round.proofs.BoardBags.{board_bags-IsAscending}
use Rattle.flame_nodes.specs.NodeLeavings.{AreLeftBy}
use Rattle.flame_nodes.proofs.NodeLists.{wide-ascending}
use Rattle.flame_nodes.proofs.NodeSteps.{faulted-so, left-below, settled, stepped}
use Rattle.flame_nodes.proofs.steps.step.Goals as goal

pub leave_chosen-requires-clause-pools : goal.leave_chosen-requires-clause-pools
leave_chosen-requires-clause-pools g c =
    has-route c.args.round.now.program.now.model c.args.function c.route_of-route.result.now (field_of c.args.field.now)
    c.route_of-route.ensures c.requires.fits

pub share-requires : goal.share-requires
share-requires g c =
    let model = c.args.round.now.program.now.model in
    let goes = c.route_of-route.ensures in
    let boards = c.args.field.now.boards.items in
    let all = numbers-within model goes.place.function.inputs c.route_of-route.result.now.inputs goes.routed.inputs in
    let count : length model.messages ≡ length boards =
    (sym (AllZip-long _ model.messages (map board_bag boards) c.requires.fits.boards)) ∙ length-map boards board_bag in
    subst (λ n. All (λ number. number < n) c.items.result.now) count
    (subst (λ list. All (λ number. number < length model.messages) list) (sym c.items.ensures) all)

pub run-requires-clause-fits : goal.run-requires-clause-fits
run-requires-clause-fits g c κs within =
    let model = c.args.round.now.program.now.model in
    let goes = c.route_of-route.ensures in
    let field = field_of c.args.field.now in
    let wide = width goes.place.type.memory in
    let all = map board_bag c.args.field.now.boards.items in
    let read = c.in_ok-boards.ensures.read ∙ ap (map (λ message. slice_index_or all message [])) c.items.ensures in
    record {
      place = goes.place;
      there = goes.there;
      memories =
          wide-ascending wide c.in_ok-takers.takers.items
          (subst (λ (agents : List (List ℤ)). AreWide wide agents)
          (sym (c.in_ok-takers.ensures.takers goes.place field goes.there refl))
          (takers-wide (round_of c.args.round.now) c.args.function goes.place field goes.there c.requires.fits));
      known = c.requires.known;
      wide = frozen-wide model goes.place c.route_of-route.result.now.inputs all _ c.requires.fits.boards goes.routed.inputs read;
    }

pub settle-requires-clause-there : goal.settle-requires-clause-there
settle-requires-clause-there g c =
    let goes = c.route_of-route.ensures in
    let route = c.route_of-route.result.now in
    let pools = pools_of c.args.field.now.pools in
    let has = has-route c.args.round.now.program.now.model c.args.function route (field_of c.args.field.now) goes c.requires.fits in
    omega (
      arith,
      has.to,
      ap (λ pools. length (slice_index_or pools route.agent [])) (c.in_ok-takers.ensures.others goes.place goes.there),
      changed_pool-length goes.place.agent (state_place goes.place.type goes.place.function.current)
          (staying (round_of c.args.round.now) c.args.function goes.place) pools route.agent,
    )

pub settle-requires-clause-messages : goal.settle-requires-clause-messages
settle-requires-clause-messages g c =
    let round = c.args.round.now in
    let source = round.program.now in
    let goes = c.route_of-route.ensures in
    let all = map board_bag c.args.field.now.boards.items in
    let read = c.in_ok-boards.ensures.read ∙ ap (map (λ message. slice_index_or all message [])) c.items.ensures in
    let named = frozen-named source c.args.function goes.place c.route_of-route.result.now.inputs all _ goes.there goes.routed.inputs read in
    let agents = ascending c.in_ok-takers.takers.items in
    let run : List ℤ → Outcome = outcome_in (round_of round) c.args.function (field_of c.args.field.now) in
    let left : AreLeftBy round.iteration c.args.function run (outputs_of source.model c.args.function) agents c.in_ok-left.left =
    c.in_ok-left.ensures all named in
    let count : length source.model.messages ≡ length c.share.new.boards.items =
    (sym (AllZip-long _ source.model.messages all c.requires.fits.boards))
    ∙ ap length (sym c.in_ok-boards.ensures.bags)
    ∙ length-map c.share.new.boards.items board_bag in
    left-below round.iteration c.args.function run (outputs_of source.model c.args.function) agents c.in_ok-left.left left
    (length c.share.new.boards.items)
    (subst (λ n. All (λ (s : Sent). s.message < n) (sent_from run agents)) count
    (sent-within source c.args.function all round.constants.now round.iteration round.fuel agents))

pub returns-then-is_some-clause-stepped : goal.returns-then-is_some-clause-stepped
returns-then-is_some-clause-stepped g c =
    let round = c.args.round.now in
    let source = round.program.now in
    let meant = round_of round in
    let function = c.args.function in
    let goes = c.route_of-route.ensures in
    let route = c.route_of-route.result.now in
    let field = field_of c.args.field.now in
    let all = map board_bag c.args.field.now.boards.items in
    let outputs = outputs_of source.model function in
    let read = c.in_ok-boards.ensures.read ∙ ap (map (λ message. slice_index_or all message [])) c.items.ensures in
    let named = frozen-named source function goes.place route.inputs all _ goes.there goes.routed.inputs read in
    let run : List ℤ → Outcome = outcome_in meant function field in
    let takers = taking meant function goes.place field in
    let came : ascending c.in_ok-takers.takers.items ≡ takers = c.in_ok-takers.ensures.takers goes.place field goes.there refl in
    let order : ascending takers ≡ takers = ap ascending (sym came) ∙ ascending-ascending c.in_ok-takers.takers.items ∙ came in
    let left : AreLeftBy round.iteration function run outputs takers c.in_ok-left.left =
    subst (λ (agents : List (List ℤ)). AreLeftBy round.iteration function run outputs agents c.in_ok-left.left) came (c.in_ok-left.ensures all named) in
    let pools = c.in_ok-takers.ensures.others goes.place goes.there in
    let born =
    ap (joined (births_of c.args.field.now.born.items))
    (pools_long c.args.field.now.pools c.leave_chosen.new.pools _ _ _ pools) in
    let after : Standing = record {
      pools = pools_of c.leave_chosen.new.pools;
      born = joined (births_of c.args.field.now.born.items) (map (λ own. []) c.leave_chosen.new.pools.items);
      boards = map board_bag c.share.new.boards.items;
    } in
    faulted-so c.in_ok-left.left.fault _ (settled c.in_ok-left.left route after) (sym c.if-is_some.ensures)
    ∙ stepped meant function goes.place field goes.there outputs c.in_ok-left.left route after left
    (λ message out. sends_to_outputs c.names_differ.ensures.messages meant function field c.source-accepted.ensures.accepted c.requires.there
    (board_bags-IsAscending c.args.field.now.boards.items) takers message out)
    order goes.routed.agent goes.routed.to pools born c.in_ok-boards.ensures.bags

pub returns-clause-stepped : goal.returns-clause-stepped
returns-clause-stepped g c =
    let round = c.args.round.now in
    let source = round.program.now in
    let meant = round_of round in
    let function = c.args.function in
    let goes = c.route_of-route.ensures in
    let route = c.route_of-route.result.now in
    let field = field_of c.args.field.now in
    let all = map board_bag c.args.field.now.boards.items in
    let outputs = outputs_of source.model function in
    let read = c.in_ok-boards.ensures.read ∙ ap (map (λ message. slice_index_or all message [])) c.items.ensures in
    let named = frozen-named source function goes.place route.inputs all _ goes.there goes.routed.inputs read in
    let run : List ℤ → Outcome = outcome_in meant function field in
    let takers = taking meant function goes.place field in
    let came : ascending c.in_ok-takers.takers.items ≡ takers = c.in_ok-takers.ensures.takers goes.place field goes.there refl in
    let order : ascending takers ≡ takers = ap ascending (sym came) ∙ ascending-ascending c.in_ok-takers.takers.items ∙ came in
    let left : AreLeftBy round.iteration function run outputs takers c.in_ok-left.left =
    subst (λ (agents : List (List ℤ)). AreLeftBy round.iteration function run outputs agents c.in_ok-left.left) came (c.in_ok-left.ensures all named) in
    let pools = c.in_ok-takers.ensures.others goes.place goes.there in
    let born =
    ap (joined (births_of c.args.field.now.born.items))
    (pools_long c.args.field.now.pools c.leave_chosen.new.pools _ _ _ pools) in
    let after : Standing = record {
      pools = pools_of c.leave_chosen.new.pools;
      born = joined (births_of c.args.field.now.born.items) (map (λ own. []) c.leave_chosen.new.pools.items);
      boards = map board_bag c.share.new.boards.items;
    } in
    ap (unless_faulted None) c.in_ok-settle.ensures.field
    ∙ ap (λ fault. unless_faulted fault (settled c.in_ok-left.left route after)) (sym (is_some-false c.in_ok-left.left.fault (sym c.if-is_some.ensures)))
    ∙ stepped meant function goes.place field goes.there outputs c.in_ok-left.left route after left
    (λ message out. sends_to_outputs c.names_differ.ensures.messages meant function field c.source-accepted.ensures.accepted c.requires.there
    (board_bags-IsAscending c.args.field.now.boards.items) takers message out)
    order goes.routed.agent goes.routed.to pools born c.in_ok-boards.ensures.bags

pub returns-clause-dealt : goal.returns-clause-dealt
returns-clause-dealt g c =
    c.in_ok-settle.ensures.dealt (choice_at c.args.round.now.program.now.model c.args.round.now.iteration) c.in_ok-takers.ensures.dealt

pub returns-then-is_some-clause-dealt : goal.returns-then-is_some-clause-dealt
returns-then-is_some-clause-dealt g c = c.in_ok-takers.ensures.dealt
