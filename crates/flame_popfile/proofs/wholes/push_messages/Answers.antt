-- The lists are those of the model and of the boards.
use Rattle.std.proofs.Common.{◌++◌, ◌∙◌, map, sym, ap, ap₂}
use Rattle.std.proofs.lemmas.Result.{on_ok_weaker}
use Rattle.flame_spec.specs.declared.models.MessageType.{MessageType}
use Rattle.flame_popfile.specs.declared.formats.Format.{Format}
use Rattle.flame_popfile.specs.RowTexts.{with_commas, board_texts, bag_texts}
use Rattle.flame_popfile.specs.IterationTexts.{all_board_texts}
use Rattle.flame_popfile.proofs.wholes.push_messages.Goals as goal

pub returns-in-One : goal.returns-in-One
returns-in-One g c =
    on_ok_weaker c.push_boards.result
    (λ e.
    e
    ∙ ap₂ (λ types bags. c.args.bytes.now.items ++ with_commas (board_texts types bags)) c.items-messages.ensures
    c.items-bags.ensures
    ∙ ap
    (λ (format : Format). c.args.bytes.now.items
    ++ with_commas (all_board_texts format c.args.model.now.messages c.args.boards.now.boards))
    (sym c.in-One.is))
    c.push_boards.ensures

pub returns-in-Two : goal.returns-in-Two
returns-in-Two g c =
    on_ok_weaker c.push_message_bags.result
    (λ e.
    e
    ∙ ap₂
    (λ types bags. c.args.bytes.now.items
    ++ with_commas (bag_texts (map (λ (message : MessageType). message.name) types) bags))
    c.items-messages.ensures c.items-bags.ensures
    ∙ ap
    (λ (format : Format). c.args.bytes.now.items
    ++ with_commas (all_board_texts format c.args.model.now.messages c.args.boards.now.boards))
    (sym c.in-Two.is))
    c.push_message_bags.ensures
