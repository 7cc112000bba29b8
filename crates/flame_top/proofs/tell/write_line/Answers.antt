use Rattle.flame_outside.specs.Printed.{Prints}
use Rattle.flame_outside.proofs.FrameLemmas.{prints_front}
use Rattle.flame_top.proofs.tell.write_line.Goals as goal

pub returns-in-Ok-clause-tells : goal.returns-in-Ok-clause-tells
returns-in-Ok-clause-tells g c =
    let old = g.S.Sink.seen c.args.err.now in
    let new = g.S.Sink.seen c.write.new.self in
    let whole : Prints c.args.line.now old new = c.in-Ok.ensures.ok in
    record { front = prints_front c.args.line.now old new whole; whole = λ calm. whole }
