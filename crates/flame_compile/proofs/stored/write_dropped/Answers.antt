use Rattle.flame_code.specs.declared.instrs.Instr.TheVariants.{Call, Drop}
use Rattle.flame_compile.specs.Pieces.{one}
use Rattle.flame_compile.proofs.Writing.{wrote_2}
use Rattle.flame_compile.proofs.stored.write_dropped.Goals as goal

pub returns : goal.returns
returns c =
    wrote_2 (one (Call c.args.line c.args.helper c.args.count)) (one Drop) _ _ _
    c.in_ok-put.ensures c.in_ok-put-2.ensures
