use Rattle.std.proofs.Common.{◌+◌, ◌≤◌, ◌∙◌, Bool, cond, List, ◌++◌, length, map, ap, arith}
use Rattle.std.specs.Vec.{vec_len, vec_capacity}
use Rattle.flame_rows.specs.Bags.{ascending, merge}
use Rattle.flame_spec.specs.declared.outcomes.Born.{Born}
use Rattle.flame_world.specs.AgentRuns.{births_of}
use Rattle.flame_world.specs.Fields.{joined}
use Rattle.flame_field.specs.KeptBoards.{board_bag}
use Rattle.flame_field.proofs.Borne.{born_more, none_same, pools_long}
use Rattle.flame_field.proofs.Written.{on_err}
use Rattle.flame_field.proofs.fields.Field.bring.Goals as goal

pub returns-in_err-arrive-clause-err : goal.returns-in_err-arrive-clause-err
returns-in_err-arrive-clause-err c =
    let self = c.args.self.now in
    let pools = c.in_err-arrive.ensures.err in
    let none = none_same self.pools c.arrive.new.pools (ap length pools) in
    let items = c.in_ok-reserve.ensures.items in
    on_err c.from_residual-in_err-arrive.result
    (λ i. record { pools = pools i; born = joined (births_of (items i)) (none i); boards = map board_bag self.boards.items })

pub returns-clause-ok : goal.returns-clause-ok
returns-clause-ok c =
    let self = c.args.self.now in
    let births = c.args.born.items in
    let pools = c.in_ok-arrive.ensures.ok in
    let none = pools_long self.pools c.arrive.new.pools c.args.agent c.args.state
    (λ pool. merge pool (ascending c.args.survivors.items)) pools in
    let room : vec_len c.reserve.new.self + vec_len c.args.born ≤ vec_capacity c.reserve.new.self =
    omega (arith, c.in_ok-reserve.ensures.ok, c.len.ensures) in
    let items = c.append-room.ensures.items
    ∙ ap (λ (b : Bool). cond b (c.reserve.new.self.items ++ births) c.reserve.new.self.items) (c.append-room.ensures.succeeds room)
    ∙ ap (λ (l : List Born). l ++ births) c.in_ok-reserve.ensures.items in
    let born = born_more self.pools c.arrive.new.pools self.born.items births c.append-room.new.self.items none items in
    λ i. record { pools = pools i; born = born i; boards = map board_bag self.boards.items }
