use Rattle.std.proofs.Common.{sym, ◌∙◌}
use Rattle.flame_top.proofs.ReplayEndings.{file_gives, file_stops, file_is_read, read_stops, read_is_stopped, read_is_failed}
use Rattle.flame_top.proofs.replays.trace_in.Goals as goal

pub returns-in-Ok-Ok-clause-gives : goal.returns-in-Ok-Ok-clause-gives
returns-in-Ok-Ok-clause-gives g c = λ told held.
    file_gives told c.args.name.now c.in-Ok-Ok.bytes (sym (c.in-Ok-Ok.ensures.found told held) ∙ c.in-Ok-Ok.field-0-is)

pub returns-in-Ok-Err-clause-gives : goal.returns-in-Ok-Err-clause-gives
returns-in-Ok-Err-clause-gives g c = λ told held.
    file_stops told c.args.name.now c.in-Ok-Err.fault c.file_ending.result
    (sym (c.in-Ok-Err.ensures.found told held) ∙ c.in-Ok-Err.field-0-is) c.file_ending.ensures.ending

pub returns-in-Ok-Err-clause-read_fault : goal.returns-in-Ok-Err-clause-read_fault
returns-in-Ok-Err-clause-read_fault g c = λ is.
    absurd (file_is_read c.args.name.now c.in-Ok-Err.fault c.file_ending.result c.file_ending.ensures.ending is)

pub returns-in-Err-clause-gives : goal.returns-in-Err-clause-gives
returns-in-Err-clause-gives g c = λ told held.
    read_stops told c.args.name.now c.in-Err.fail c.read_ending.result c.read_ending.ensures.ending

pub returns-in-Err-clause-stops : goal.returns-in-Err-clause-stops
returns-in-Err-clause-stops g c = read_is_stopped c.args.name.now c.in-Err.fail c.read_ending.result c.read_ending.ensures.ending

pub returns-in-Err-clause-read_fault : goal.returns-in-Err-clause-read_fault
returns-in-Err-clause-read_fault g c = λ is.
    c.in-Err.ensures.failed (read_is_failed c.args.name.now c.in-Err.fail c.read_ending.result c.read_ending.ensures.ending is)
