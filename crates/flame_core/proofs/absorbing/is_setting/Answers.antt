use Rattle.std.proofs.Common.{◌∙◌, [], List, ap, map, refl, rules, sym, to_z, w32, SFits}
use Rattle.std.specs.Prelude.{ℤ, slice_index_or}
use Rattle.std.proofs.lemmas.Bool.{false≢true}
use Rattle.std.proofs.lemmas.Int.{to_z-of_z}
use Rattle.flame_index.specs.FrozenBoards.{shared_messages}
use Rattle.flame_field.specs.KeptBoards.{board_bag}
use Rattle.flame_round.proofs.Stepped.{frozen-named}
use Rattle.flame_core.proofs.absorbing.is_setting.Goals as goal

pub returns-then-not-same_boards : goal.returns-then-not-same_boards
returns-then-not-same_boards c =
    let source = c.args.round.now.program.now in
    let bags = map board_bag c.args.boards.now in
    let route = c.args.route.now in
    let goes = c.requires.route in
    let all : List (List (List ℤ)) = map (λ message. slice_index_or bags message []) route.inputs in
    let named = frozen-named source c.args.function goes.place route.inputs bags all goes.there goes.routed.inputs refl in
    let read = ap (map (λ message. slice_index_or bags message [])) c.items.ensures in (
      λ none. absurd (false≢true none),
      λ own. c.if-not-same_boards.ensures.1 (ap (map shared_messages) c.items-2.ensures ∙ own.boards_are ∙ sym (read ∙ named)),
    )

pub returns : goal.returns
returns c =
    let source = c.args.round.now.program.now in
    let bags = map board_bag c.args.boards.now in
    let route = c.args.route.now in
    let goes = c.requires.route in
    let all : List (List (List ℤ)) = map (λ message. slice_index_or bags message []) route.inputs in
    let named = frozen-named source c.args.function goes.place route.inputs bags all goes.there goes.routed.inputs refl in
    let ours : SFits w32 c.args.round.now.iteration = search rules in
    let theirs : SFits w32 c.args.setting.now.iteration = search rules in
    let read = ap (map (λ message. slice_index_or bags message [])) c.items.ensures in (
      λ yes.
          record {
            source = sym (c.same-2.ensures.0 yes) ∙ c.source.ensures.same;
            constants = sym (c.if-not-same.ensures.0 refl);
            boards_are = ap (map shared_messages) (sym c.items-2.ensures) ∙ c.if-not-same_boards.ensures.0 refl ∙ read ∙ named;
            iteration =
                sym (to_z-of_z w32 c.args.setting.now.iteration theirs)
                ∙ ap (to_z w32) (sym c.if-round-setting.false)
                ∙ to_z-of_z w32 c.args.round.now.iteration ours;
            fuel = sym c.if-round-setting-2.false;
          },
      λ own. c.same-2.ensures.1 (c.source.ensures.same ∙ sym own.source),
    )
