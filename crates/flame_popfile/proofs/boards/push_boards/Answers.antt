use Rattle.std.proofs.Common.{List, ◌++◌, ◌∙◌, map, refl, ap, ℕ}
use Rattle.std.specs.Prelude.{ℤ}
use Rattle.flame_spec.specs.declared.models.MessageType.{MessageType}
use Rattle.flame_popfile.specs.RowTexts.{board_texts, board_text}
use Rattle.std.proofs.lemmas.Slice.Zip.{either_empty_from_Zip}
use Rattle.flame_popfile.proofs.CommaLists.{pairs_more, pairs_all}
use Rattle.flame_popfile.proofs.boards.push_boards.Goals as goal

abbrev text_of : MessageType × List (List ℤ) → List ℕ
text_of (message, bag) = board_text message bag

pub loop-message-preserved : goal.loop-message-preserved
loop-message-preserved g c =
    pairs_more text_of _ _ _ c.loop-message.more _ _ _ _ c.in-Some.message.now c.in-Some.bag.now
    c.in-Some.ensures.steps.0 c.in-Some.ensures.steps.1 c.in_ok-push_comma.ensures
    (c.in_ok-push_board.ensures
    ∙ ap (λ rows. c.push_comma.new.bytes.items ++ board_text c.in-Some.message.now rows) c.rows.ensures.rows)
    ∙ c.loop-message.invariant

pub returns : goal.returns
returns g c =
    pairs_all (map text_of) c.args.bytes.now.items c.loop-message.bytes.items c.loop-message.more _ _
    (board_texts c.args.messages.now c.args.bags.now) refl
    (either_empty_from_Zip c.loop-message.message-iterator c.next.new.self _ c.in-None.is c.next.ensures.steps)
    c.loop-message.invariant
