use Rattle.flame_code.specs.declared.instrs.Instr.TheVariants.{Dup, MemAt}
use Rattle.flame_compile.specs.Pieces.{one}
use Rattle.flame_compile.proofs.Writing.{wrote_2}
use Rattle.flame_compile.proofs.stored.write_element_loaded.Goals as goal

pub returns : goal.returns
returns c =
    wrote_2 (one Dup) (one (MemAt c.args.line c.args.cells.column c.args.cells.length)) _ _ _
    c.in_ok-put.ensures c.in_ok-put-2.ensures
