use Rattle.std.proofs.Common.{◌++◌, ◌∙◌, ap}
use Rattle.flame_popfile.specs.RowTexts.{object_text}
use Rattle.flame_popfile.proofs.Chains.{chain_five}
use Rattle.flame_popfile.proofs.rows.push_agent.Goals as goal

pub returns : goal.returns
returns c =
    chain_five _ _ _ _ _ _ _ _ _ _ _ c.in_ok-push_str.ensures
    (c.in_ok-push_str-2.ensures ∙ ap (λ name. c.push_str.new.bytes.items ++ name) c.as_str.ensures)
    c.in_ok-push_str-3.ensures
    (c.in_ok-push_object.ensures
    ∙ ap (λ variables. c.push_str-3.new.bytes.items ++ object_text variables c.args.row.now) c.items.ensures)
    c.in_ok-push_str-4.ensures
