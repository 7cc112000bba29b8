-- The boards that a function reads, which are shared.
use Rattle.std.proofs.Common.{◌≡◌, ◌∙◌, ◌<◌, true, Some, [], length, map, refl, sym, ap, subst}
use Rattle.std.specs.Prelude.{slice_index_or}
use Rattle.std.specs.List.{All}
use Rattle.flame_spec.specs.Functions.{Place}
use Rattle.flame_index.specs.FrozenBoards.{shared_messages}
use Rattle.flame_agent.specs.FunctionFits.{AreBoardsFor}
use Rattle.flame_events.specs.CoreStates.{is_frozen}
use Rattle.flame_field.specs.KeptBoards.{board_bag}
use Rattle.flame_progress.specs.KeptCores.{core_of}
use Rattle.flame_progress.proofs.Tallied.{came}
use Rattle.flame_core.proofs.Running.{fed_frozen, fed_known, same_core}
use Rattle.flame_round.proofs.Stepped.{frozen-named, frozen-wide}
use Rattle.flame_core.proofs.inputs.input_boards.Goals as goal

some_place : (x y : Place) → Some x ≡ Some y → x ≡ y
some_place x y e = cc

pub route_of-route-requires : goal.route_of-route-requires
route_of-route-requires c = c.requires.fed.there c.requires.began

pub share-requires : goal.share-requires
share-requires c =
    subst (All (λ m. m < length c.args.progress.now.field.boards.items)) (sym c.items-inputs.ensures)
    (fed_known c.args.round.now.program.now.model c.args.progress.now c.args.function c.route_of-route.result.now
    c.route_of-route.ensures c.requires.fed c.requires.began)

pub returns-clause-read : goal.returns-clause-read
returns-clause-read c =
    let source = c.args.round.now.program.now in
    let boards = map board_bag c.args.progress.now.field.boards.items in
    let goes = c.route_of-route.ensures in
    let read = ap (map shared_messages) c.of.ensures ∙ c.in_ok-share.ensures.read
    ∙ ap (map (λ message. slice_index_or boards message [])) c.items-inputs.ensures in
    frozen-named source c.args.function goes.place c.route_of-route.result.now.inputs boards _ goes.there
    goes.routed.inputs read

pub returns-clause-wide : goal.returns-clause-wide
returns-clause-wide c = λ place at fits.
    let model = c.args.round.now.program.now.model in
    let boards = map board_bag c.args.progress.now.field.boards.items in
    let goes = c.route_of-route.ensures in
    let read = ap (map shared_messages) c.of.ensures ∙ c.in_ok-share.ensures.read
    ∙ ap (map (λ message. slice_index_or boards message [])) c.items-inputs.ensures in
    let wide = frozen-wide model goes.place c.route_of-route.result.now.inputs boards _ fits goes.routed.inputs read in
    subst (λ (p : Place). AreBoardsFor model p.function.inputs (map shared_messages c.of.result))
    (some_place _ _ (sym goes.there ∙ at)) wide

pub returns-in_err-share-clause-kept : goal.returns-in_err-share-clause-kept
returns-in_err-share-clause-kept c = λ counts tallies.
    let model = c.args.round.now.program.now.model in
    let progress = c.args.progress.now in
    let frozen = subst (All (λ m. is_frozen (core_of progress) m ≡ true)) (sym c.items-inputs.ensures)
    (fed_frozen model progress c.args.function c.route_of-route.result.now c.route_of-route.ensures c.requires.fed c.requires.began) in
    let same = same_core progress c.share.new.boards c.in_err-share.ensures.bags (c.in_err-share.ensures.frozen frozen) in
    came model progress (record progress { field = record progress.field { boards = c.share.new.boards } }) counts counts
    (core_of progress) same refl refl
    (λ g has. has) tallies tallies.counted

pub returns-clause-kept : goal.returns-clause-kept
returns-clause-kept c = λ counts tallies.
    let model = c.args.round.now.program.now.model in
    let progress = c.args.progress.now in
    let frozen = subst (All (λ m. is_frozen (core_of progress) m ≡ true)) (sym c.items-inputs.ensures)
    (fed_frozen model progress c.args.function c.route_of-route.result.now c.route_of-route.ensures c.requires.fed c.requires.began) in
    let same = same_core progress c.share.new.boards c.in_ok-share.ensures.bags (c.in_ok-share.ensures.frozen frozen) in
    came model progress (record progress { field = record progress.field { boards = c.share.new.boards } }) counts counts
    (core_of progress) same refl refl
    (λ g has. has) tallies tallies.counted
