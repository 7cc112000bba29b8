use Rattle.std.proofs.Common.{arith}
use Rattle.flame_flow.proofs.Places.{added_at}
use Rattle.flame_flow.proofs.ways.add.Goals as goal

pub returns-in_ok-push : goal.returns-in_ok-push
returns-in_ok-push c =
    added_at (λ list. list.items) c.args.lists.now.items c.args.place c.args.number c.index_mut.result.now c.push.new.self
    (omega (arith, c.if-place-len.true)) c.index_mut.ensures.value c.in_ok-push.ensures.items
