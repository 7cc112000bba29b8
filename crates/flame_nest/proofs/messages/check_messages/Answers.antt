use Rattle.std.proofs.lemmas.Result.{err_from_is_err_and}
use Rattle.flame_nest.specs.NestFaults.{meant_by, message_faults}
use Rattle.flame_nest.specs.GivenTables.{given_in}
use Rattle.flame_nest.proofs.Firsts.{fails-item, none-item}
use Rattle.flame_nest.proofs.messages.check_messages.Goals as goal

pub loop-message-preserved : goal.loop-message-preserved
loop-message-preserved c =
    none-item
    (message_faults c.args.file.now (given_in c.args.earlier.now) (meant_by c.args.kinds.now))
    c.args.messages.now
    c.loop-message.message-index
    c.message-item.result
    c.message-item.result
    _
    c.loop-message-test.true
    c.message-item.is
    c.loop-message.invariant
    c.in_ok-check_message.ensures.none

pub returns-in_err-check_message-clause-first : goal.returns-in_err-check_message-clause-first
returns-in_err-check_message-clause-first c =
    let p = err_from_is_err_and c.from_residual.result c.from_residual.ensures.1 in
    rw
    (p.1, p.2)
    (fails-item
    _
    (message_faults c.args.file.now (given_in c.args.earlier.now) (meant_by c.args.kinds.now))
    c.args.messages.now
    c.loop-message.message-index
    c.message-item.result
    c.message-item.result
    _
    c.loop-message-test.true
    c.message-item.is
    c.loop-message.invariant
    c.in_err-check_message.ensures.first)
