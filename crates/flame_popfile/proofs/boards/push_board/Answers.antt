use Rattle.std.proofs.Common.{◌++◌, ◌∙◌, map, ap, false}
use Rattle.flame_popfile.specs.RowTexts.{object_text}
use Rattle.flame_popfile.specs.CommaTexts.{behind}
use Rattle.flame_popfile.proofs.Chains.{chain_five}
use Rattle.flame_popfile.proofs.CommaLists.{behind_nothing}
use Rattle.flame_popfile.proofs.boards.push_board.Goals as goal

pub returns : goal.returns
returns g c =
    chain_five _ _ _ _ _ _ _ _ _ _ _ c.in_ok-push_str.ensures
    (c.in_ok-push_str-2.ensures ∙ ap (λ name. c.push_str.new.bytes.items ++ name) c.as_str.ensures)
    c.in_ok-push_str-3.ensures
    (c.in_ok-push_rows.ensures
    ∙ ap (λ variables. c.push_str-3.new.bytes.items ++ behind false (map (object_text variables) c.args.rows.now))
    c.items.ensures
    ∙ ap (λ text. c.push_str-3.new.bytes.items ++ text)
    (behind_nothing (map (object_text c.args.message.now.variables) c.args.rows.now)))
    c.in_ok-push_str-4.ensures
