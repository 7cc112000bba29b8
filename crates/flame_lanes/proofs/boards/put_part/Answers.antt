use Rattle.std.proofs.Common.{◌≡◌, ◌+◌, ◌∙◌, ap}
use Rattle.std.proofs.lemmas.List.{length-set}
use Rattle.flame_rows.specs.Bags.{ascending, weigh}
use Rattle.flame_rows.proofs.BagLaws.{merge_adds_weights, weigh-ascending}
use Rattle.flame_index.specs.FrozenBoards.{messages_on}
use Rattle.flame_field.specs.KeptBoards.{board_bag}
use Rattle.flame_lanes.proofs.BoardWeights.{weigh_board-joined}
use Rattle.flame_lanes.proofs.boards.put_part.Goals as goal

pub returns-clause-moved : goal.returns-clause-moved
returns-clause-moved c = λ message weight.
    let part = c.args.part in
    let old = c.index_mut.result.now in
    let messages = messages_on c.of.result in
    let joined : weigh weight (board_bag c.put.new.board) ≡ weigh weight (board_bag old) + weigh weight part.rows =
    ap (weigh weight) c.in_ok-put.ensures
    ∙ merge_adds_weights weight (board_bag old) (ascending messages)
    ∙ ap (λ n. weigh weight (board_bag old) + n) (weigh-ascending weight messages ∙ ap (weigh weight) c.of.ensures.messages) in
    weigh_board-joined weight c.args.field.now.items part.message message old c.put.new.board (weigh weight part.rows) c.requires
    c.index_mut.ensures.value joined

pub returns-clause-count : goal.returns-clause-count
returns-clause-count c = length-set c.args.field.now.items c.args.part.message c.put.new.board
