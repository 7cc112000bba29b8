use Rattle.std.proofs.Common.{◌≡◌, ◌∙◌, ◌<◌, [], List, arith, get_or, length, map, refl, sym}
use Rattle.std.specs.Prelude.{ℕ, ℤ, slice_index_or}
use Rattle.std.proofs.lemmas.Bool.{false≢true}
use Rattle.std.proofs.lemmas.List.{get_or_default}
use Rattle.flame_rows.proofs.Lists.{slice_index_or-map}
use Rattle.flame_index.specs.FrozenBoards.{shared_messages}
use Rattle.flame_field.specs.KeptBoards.{board_bag}
use Rattle.flame_core.proofs.SameSeen.{same_at, same_more}
use Rattle.flame_core.proofs.absorbing.same_boards.Goals as goal

pub returns-then-not-same_board : goal.returns-then-not-same_board
returns-then-not-same_board c =
    let boards = c.args.boards.now in
    let messages = c.args.messages.now in
    let read = c.args.read.now in
    let i = c.loop-i.i in
    let g : ℕ → List (List ℤ) = λ message. slice_index_or (map board_bag boards) message [] in
    let less : i < length messages = omega arith in
    let within : i < length read = omega arith in
    let long : length read ≡ length messages = omega arith in
    let message = get_or messages i 0 in
    let there = slice_index_or-map board_bag [] boards message c.index-boards-messages.result (c.requires.known i 0 less)
    c.index-boards-messages.is in (
      λ none. absurd (false≢true none),
      λ same.
          c.if-not-same_board.ensures.1
          (same_at shared_messages g read messages i c.index-read-i.result message within long c.index-read-i.is
          (get_or_default messages i 0 message less) same ∙ there),
    )

pub loop-i-preserved : goal.loop-i-preserved
loop-i-preserved c =
    let boards = c.args.boards.now in
    let messages = c.args.messages.now in
    let read = c.args.read.now in
    let i = c.loop-i.i in
    let g : ℕ → List (List ℤ) = λ message. slice_index_or (map board_bag boards) message [] in
    let less : i < length messages = omega arith in
    let within : i < length read = omega arith in
    let long : length read ≡ length messages = omega arith in
    let message = get_or messages i 0 in
    let there = slice_index_or-map board_bag [] boards message c.index-boards-messages.result (c.requires.known i 0 less)
    c.index-boards-messages.is in
    same_more shared_messages g read messages i c.index-read-i.result message within long c.index-read-i.is
    (get_or_default messages i 0 message less) c.loop-i.invariant (c.if-not-same_board.ensures.0 refl ∙ sym there)
