use Rattle.std.proofs.Common.{ap, length}
use Rattle.flame_code.specs.declared.instrs.Instr.TheVariants.{Call}
use Rattle.flame_compile.specs.Pieces.{one, both}
use Rattle.flame_compile.specs.Emit.{arguments}
use Rattle.flame_compile.proofs.Writing.{two_written}
use Rattle.flame_compile.proofs.stored.write_helped.Goals as goal

pub returns : goal.returns
returns c =
    let es = c.args.es.now in
    two_written (arguments es) (one (Call c.args.line c.args.helper c.in_ok-count.count))
    (both (arguments es) (one (Call c.args.line c.args.helper (length es)))) _ _ _
    c.in_ok-write_arguments.ensures c.in_ok-put.ensures
    (ap (λ n. both (arguments es) (one (Call c.args.line c.args.helper n))) c.in_ok-count.ensures)
