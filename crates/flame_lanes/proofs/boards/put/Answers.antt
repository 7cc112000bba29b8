use Rattle.std.proofs.Common.{◌∙◌, ap, sym}
use Rattle.flame_rows.specs.Bags.{ascending, merge}
use Rattle.flame_rows.proofs.Merging.{ascending-ascending}
use Rattle.flame_index.specs.FrozenBoards.{messages_on}
use Rattle.flame_lanes.proofs.boards.put.Goals as goal

pub returns-then-is_new : goal.returns-then-is_new
returns-then-is_new c =
    let messages = messages_on c.args.frozen in
    sym (
    ap (λ bag. merge bag (ascending messages)) (c.is_new.ensures c.if-is_new.true)
    ∙ ascending-ascending messages
    )
