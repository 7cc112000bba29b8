use Rattle.std.proofs.Common.{false, sym, ◌∙◌}
use Rattle.flame_rows.specs.Bags.{merge}
use Rattle.flame_rows.proofs.Lists.{slice_index_or-map}
use Rattle.flame_field.specs.KeptBoards.{board_bag, is_board_frozen}
use Rattle.flame_field.proofs.Changed.{map-written}
use Rattle.flame_field.proofs.Written.{map-kept, on_err}
use Rattle.flame_progress.proofs.handing.hand_over_at.Goals as goal

pub hand_over_function-requires-clause-gathers : goal.hand_over_function-requires-clause-gathers
hand_over_function-requires-clause-gathers c =
    sym (slice_index_or-map is_board_frozen false c.args.boards.now.items c.args.message c.index_mut.result.now c.requires.known c.index_mut.ensures.value)
    ∙ c.requires.gathers

pub returns-in_err-hand_over_function-clause-frozen : goal.returns-in_err-hand_over_function-clause-frozen
returns-in_err-hand_over_function-clause-frozen c =
    map-kept is_board_frozen c.args.boards.now.items c.args.message c.index_mut.result.now c.hand_over_function.new.board
    c.requires.known c.index_mut.ensures.value
    (c.in_err-hand_over_function.ensures.gathers
    ∙ sym c.requires.gathers
    ∙ slice_index_or-map is_board_frozen false c.args.boards.now.items c.args.message c.index_mut.result.now c.requires.known c.index_mut.ensures.value)

pub returns-in_err-hand_over_function-clause-same_boards : goal.returns-in_err-hand_over_function-clause-same_boards
returns-in_err-hand_over_function-clause-same_boards c =
    on_err _ (
    map-kept board_bag c.args.boards.now.items c.args.message c.index_mut.result.now c.hand_over_function.new.board
    c.requires.known c.index_mut.ensures.value c.in_err-hand_over_function.ensures.same_board
    )

pub returns-clause-boards : goal.returns-clause-boards
returns-clause-boards c = λ outputs work rows has there part.
    map-written board_bag (λ board. merge board rows) c.args.boards.now.items c.args.message c.index_mut.result.now
    c.hand_over_function.new.board c.requires.known c.index_mut.ensures.value
    (c.in_ok-hand_over_function.ensures.board outputs work rows has there part)

pub returns-clause-frozen : goal.returns-clause-frozen
returns-clause-frozen c =
    map-kept is_board_frozen c.args.boards.now.items c.args.message c.index_mut.result.now c.hand_over_function.new.board
    c.requires.known c.index_mut.ensures.value
    (c.in_ok-hand_over_function.ensures.gathers
    ∙ sym c.requires.gathers
    ∙ slice_index_or-map is_board_frozen false c.args.boards.now.items c.args.message c.index_mut.result.now c.requires.known c.index_mut.ensures.value)
