use Rattle.std.proofs.Common.{◌≡◌, ◌∙◌, ◌<◌, ap, arith, length, map, refl, sym, subst, [], List}
use Rattle.std.specs.Prelude.{ℤ, slice_index_or}
use Rattle.std.specs.List.{All}
use Rattle.std.proofs.lemmas.List.{length-map}
use Rattle.std.proofs.lemmas.Result.{IfOk-weaker}
use Rattle.std.proofs.lemmas.Slice.Zip.{AllZip-long}
use Rattle.flame_rows.specs.Order.{row_order}
use Rattle.flame_spec.specs.Columns.{width}
use Rattle.flame_spec.specs.declared.outcomes.Outcome.{Outcome}
use Rattle.flame_spec.specs.declared.outcomes.Sent.{Sent}
use Rattle.flame_spec.specs.States.{state_place}
use Rattle.flame_meaning.specs.Outcomes.{outcome}
use Rattle.flame_meaning.proofs.Eachs.{each_sorted-back}
use Rattle.flame_world.specs.AgentRuns.{births_of, sent_from}
use Rattle.flame_world.specs.Fields.{Field as Standing, joined}
use Rattle.flame_world.specs.Iterations.{outcome_in, staying, step, unless_faulted}
use Rattle.flame_world.specs.WorldFits.{AreWide}
use Rattle.flame_leaving.specs.Leavings.{AreLeft}
use Rattle.flame_field.specs.KeptBoards.{board_bag}
use Rattle.flame_field.specs.KeptFields.{field_of}
use Rattle.flame_field.specs.KeptPools.{pools_of}
use Rattle.flame_field.proofs.Borne.{pools_long}
use Rattle.flame_field.proofs.Changed.{changed_pool-length}
use Rattle.flame_round.specs.Choices.{choice_at}
use Rattle.flame_round.specs.KeptRounds.{round_of}
use Rattle.flame_round.proofs.LeftRows.{sent-within}
use Rattle.flame_round.proofs.NamedNumbers.{numbers-within}
use Rattle.flame_round.proofs.Stepped.{frozen-named, frozen-wide, has-route, takers-wide}
use Rattle.flame_runner.proofs.Settlings.{came, settled, stepped}
use Rattle.flame_runner.proofs.steps.step.Goals as goal

pub leave_chosen-requires-clause-pools : goal.leave_chosen-requires-clause-pools
leave_chosen-requires-clause-pools c =
    has-route c.args.round.now.program.now.model c.args.function c.route_of-route.result.now (field_of c.args.field)
    c.route_of-route.ensures c.requires.fits

pub share-requires : goal.share-requires
share-requires c =
    let model = c.args.round.now.program.now.model in
    let goes = c.route_of-route.ensures in
    let all = numbers-within model goes.place.function.inputs c.route_of-route.result.now.inputs goes.routed.inputs in
    let count : length model.messages ≡ length c.args.field.boards.items =
    (sym (AllZip-long _ model.messages (map board_bag c.args.field.boards.items) c.requires.fits.boards))
    ∙ length-map c.args.field.boards.items board_bag in
    subst (λ n. All (λ number. number < n) c.items.result.now) count
    (subst (λ list. All (λ number. number < length model.messages) list) (sym c.items.ensures) all)

pub run-requires : goal.run-requires
run-requires c =
    let model = c.args.round.now.program.now.model in
    let goes = c.route_of-route.ensures in
    let wide = width goes.place.type.memory in
    let read = c.in_ok-boards.ensures.read ∙ ap (map (λ message. slice_index_or (map board_bag c.args.field.boards.items) message [])) c.items.ensures in
    record {
      fits = record {
        place = goes.place;
        there = goes.there;
        memories =
            subst (λ (agents : List (List ℤ)). AreWide wide agents) (sym c.as_slice.ensures.value)
            (each_sorted-back (λ (row : List ℤ). length row ≡ wide) row_order c.in_ok-takers.takers.items
            (subst (λ (agents : List (List ℤ)). AreWide wide agents)
            (sym (c.in_ok-takers.ensures.takers goes.place (field_of c.args.field) goes.there refl))
            (takers-wide (round_of c.args.round.now) c.args.function goes.place (field_of c.args.field) goes.there c.requires.fits)));
        known = c.requires.known;
        wide =
            frozen-wide model goes.place c.route_of-route.result.now.inputs (map board_bag c.args.field.boards.items) _
            c.requires.fits.boards goes.routed.inputs read;
      };
    }

pub settle-requires-clause-to : goal.settle-requires-clause-to
settle-requires-clause-to c =
    let goes = c.route_of-route.ensures in
    let route = c.route_of-route.result.now in
    let has = has-route c.args.round.now.program.now.model c.args.function route (field_of c.args.field) goes c.requires.fits in
    omega (
      arith,
      has.to,
      ap (λ pools. length (slice_index_or pools route.agent [])) (c.in_ok-takers.ensures.others goes.place goes.there),
      changed_pool-length goes.place.agent (state_place goes.place.type goes.place.function.current)
          (staying (round_of c.args.round.now) c.args.function goes.place) (pools_of c.args.field.pools) route.agent,
    )

pub settle-requires-clause-messages : goal.settle-requires-clause-messages
settle-requires-clause-messages c =
    let round = c.args.round.now in
    let source = round.program.now in
    let goes = c.route_of-route.ensures in
    let all = map board_bag c.args.field.boards.items in
    let read = c.in_ok-boards.ensures.read ∙ ap (map (λ message. slice_index_or all message [])) c.items.ensures in
    let named = frozen-named source c.args.function goes.place c.route_of-route.result.now.inputs all _ goes.there goes.routed.inputs read in
    let run : List ℤ → Outcome = λ memory. outcome source c.args.function memory all round.constants.now round.iteration round.fuel in
    let left : AreLeft round.iteration c.args.function run c.in_ok-takers.takers.items c.in_ok-leaving.leaving =
    subst (λ (agents : List (List ℤ)). AreLeft round.iteration c.args.function run agents c.in_ok-leaving.leaving)
    c.as_slice.ensures.value (c.in_ok-leaving.ensures all named) in
    let count : length source.model.messages ≡ length c.share.new.boards.items =
    (sym (AllZip-long _ source.model.messages all c.requires.fits.boards))
    ∙ ap length (sym c.in_ok-boards.ensures.bags)
    ∙ length-map c.share.new.boards.items board_bag in
    subst (λ (sent : List Sent). All (λ (s : Sent). s.message < length c.share.new.boards.items) sent) (sym left.sent)
    (subst (λ n. All (λ (s : Sent). s.message < n) (sent_from run c.in_ok-takers.takers.items)) count
    (sent-within source c.args.function all round.constants.now round.iteration round.fuel c.in_ok-takers.takers.items))

pub returns-clause-stepped : goal.returns-clause-stepped
returns-clause-stepped c =
    let round = c.args.round.now in
    let source = round.program.now in
    let goes = c.route_of-route.ensures in
    let route = c.route_of-route.result.now in
    let field = field_of c.args.field in
    let all = map board_bag c.args.field.boards.items in
    let read = c.in_ok-boards.ensures.read ∙ ap (map (λ message. slice_index_or all message [])) c.items.ensures in
    let named = frozen-named source c.args.function goes.place route.inputs all _ goes.there goes.routed.inputs read in
    let run : List ℤ → Outcome = outcome_in (round_of round) c.args.function field in
    let left : AreLeft round.iteration c.args.function run c.in_ok-takers.takers.items c.in_ok-leaving.leaving =
    subst (λ (agents : List (List ℤ)). AreLeft round.iteration c.args.function run agents c.in_ok-leaving.leaving)
    c.as_slice.ensures.value (c.in_ok-leaving.ensures all named) in
    let pools = c.in_ok-takers.ensures.others goes.place goes.there in
    let born =
    ap (joined (births_of c.args.field.born.items))
    (pools_long c.args.field.pools c.leave_chosen.new.pools _ _ _ pools) in
    let after : Standing = record {
      pools = pools_of c.leave_chosen.new.pools;
      born = joined (births_of c.args.field.born.items) (map (λ own. []) c.leave_chosen.new.pools.items);
      boards = map board_bag c.share.new.boards.items;
    } in
    let leaving = c.in_ok-leaving.leaving in
    came c.settle.result (unless_faulted leaving.fault (settled leaving route after)) (step (round_of round) c.args.function field)
    (stepped (round_of round) c.args.function goes.place field goes.there c.parts_make_the_whole.ensures.survivors
    c.parts_make_the_whole.ensures.messages c.parts_make_the_whole.ensures.births leaving route c.in_ok-takers.takers.items after
    left (c.in_ok-takers.ensures.takers goes.place field goes.there refl) goes.routed.agent goes.routed.to pools born c.in_ok-boards.ensures.bags)
    c.settle.ensures.stepped

pub returns-clause-dealt : goal.returns-clause-dealt
returns-clause-dealt c =
    let choose = choice_at c.args.round.now.program.now.model c.args.round.now.iteration in
    IfOk-weaker c.settle.result _ _ (λ stepped all. all choose c.in_ok-takers.ensures.dealt) c.settle.ensures.dealt
