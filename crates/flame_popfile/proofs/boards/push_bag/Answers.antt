use Rattle.std.proofs.Common.{◌++◌, ◌∙◌, map, ap}
use Rattle.flame_popfile.specs.RowTexts.{row_text}
use Rattle.flame_popfile.proofs.Chains.{chain_five}
use Rattle.flame_popfile.proofs.CommaLists.{behind_nothing}
use Rattle.flame_popfile.proofs.boards.push_bag.Goals as goal

pub returns : goal.returns
returns g c =
    chain_five _ _ _ _ _ _ _ _ _ _ _ c.in_ok-push_str.ensures
    c.in_ok-push_str-2.ensures
    c.in_ok-push_str-3.ensures
    (c.in_ok-push_rows.ensures
    ∙ ap (λ text. c.push_str-3.new.bytes.items ++ text) (behind_nothing (map row_text c.args.rows.now)))
    c.in_ok-push_str-4.ensures
