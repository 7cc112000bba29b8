-- What was recorded and written is a trace of the iteration.
use Rattle.std.proofs.Common.{rules, ◌∙◌, w32, SFits, to_z, of_z}
use Rattle.std.proofs.lemmas.Int.{to_z-of_z}
use Rattle.flame_top.proofs.TracedIterations.{is_trace, is_fault}
use Rattle.flame_top.proofs.traces.traced.Goals as goal

pub returns-clause-trace : goal.returns-clause-trace
returns-clause-trace g c =
    let number = c.next_number-iteration in
    let fits : SFits w32 number.result = search rules in
    let recorded = c.in_ok-recorded in
    let written = c.in_ok-written in
    is_trace c.written_is_yes.ensures c.args.order.now c.args.program.now c.args.start
    (to_z w32 (of_z w32 number.result)) c.new-runner.result recorded.recorded.turn recorded.recorded.events
    written.written.text written.written.events (to_z-of_z w32 number.result fits ∙ number.ensures) c.new-runner.ensures
    c.source-source.ensures.accepted c.requires.fits c.requires.first c.requires.last c.requires.within
    recorded.ensures.turn recorded.ensures.legal recorded.ensures.complete
    written.ensures.events written.ensures.text written.ensures.count

pub returns-clause-fault : goal.returns-clause-fault
returns-clause-fault g c =
    let number = c.next_number-iteration in
    let fits : SFits w32 number.result = search rules in
    let recorded = c.in_ok-recorded in
    let written = c.in_ok-written in
    is_fault c.written_is_yes.ensures c.args.order.now c.args.program.now c.args.start
    (to_z w32 (of_z w32 number.result)) c.new-runner.result recorded.recorded.turn recorded.recorded.events
    written.written.text written.written.events (to_z-of_z w32 number.result fits ∙ number.ensures) c.new-runner.ensures
    c.source-source.ensures.accepted c.requires.fits c.requires.first c.requires.last c.requires.within
    recorded.ensures.turn recorded.ensures.legal recorded.ensures.complete
    written.ensures.events written.ensures.text written.ensures.count written.written.fault written.ensures.fault
