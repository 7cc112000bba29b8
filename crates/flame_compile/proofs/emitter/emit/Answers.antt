use Rattle.std.proofs.Common.{◌∙◌, refl}
use Rattle.std.specs.Prelude.{pos}
use Rattle.flame_code.specs.declared.instrs.Instr.TheVariants.{Push, Return}
use Rattle.flame_compile.specs.Pieces.{one, going}
use Rattle.flame_compile.specs.Emit.{statements}
use Rattle.flame_compile.proofs.Blocks.{emitted_whole}
use Rattle.flame_compile.proofs.Writing.{wrote_3}
use Rattle.flame_compile.proofs.emitter.emit.Goals as goal

pub returns-clause-code : goal.returns-clause-code
returns-clause-code c =
    let l = c.args.tree.now in
    let e = c.in_ok-end.end in
    c.of.ensures
    ∙ emitted_whole l l e c.new-out.result.items _ refl c.in_ok-end.ensures c.new-out.ensures.items
    (wrote_3 (going e e (statements l)) (one (Push (pos 0))) (one Return) _ _ _ _
    c.in_ok-write_block.ensures c.in_ok-put.ensures c.in_ok-put-2.ensures)
