use Rattle.std.proofs.Common.{ap, length}
use Rattle.flame_compile.specs.Pieces.{both}
use Rattle.flame_compile.specs.Emit.{arguments, deed}
use Rattle.flame_compile.proofs.Writing.{two_written}
use Rattle.flame_compile.proofs.statement.write_call.Goals as goal

pub returns : goal.returns
returns c =
    let es = c.args.es.now in
    two_written (arguments es) (deed c.args.deed c.in_ok-count.count) (both (arguments es) (deed c.args.deed (length es)))
    _ _ _ c.in_ok-write_arguments.ensures c.in_ok-write_deed.ensures
    (ap (λ n. both (arguments es) (deed c.args.deed n)) c.in_ok-count.ensures)
