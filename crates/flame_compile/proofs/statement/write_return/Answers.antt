use Rattle.std.proofs.Common.{refl}
use Rattle.flame_code.specs.declared.instrs.Instr.TheVariants.{Return}
use Rattle.flame_compile.specs.Pieces.{one, both}
use Rattle.flame_compile.specs.Emit.{expression}
use Rattle.flame_compile.proofs.Writing.{two_written}
use Rattle.flame_compile.proofs.statement.write_return.Goals as goal

pub returns : goal.returns
returns c =
    let e = expression c.args.e.now in
    two_written e (one Return) (both e (one Return)) _ _ _ c.in_ok-write_expression.ensures c.in_ok-put.ensures refl
