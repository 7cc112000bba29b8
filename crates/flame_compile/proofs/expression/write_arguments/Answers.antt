use Rattle.std.proofs.Common.{◌+◌, ◌∙◌, ap, sym, refl, arith, drop}
use Rattle.flame_compile.specs.Pieces.{written}
use Rattle.flame_compile.specs.Emit.{expression, arguments}
use Rattle.flame_compile.proofs.Writing.{written_more, written_done}
use Rattle.flame_compile.proofs.expression.write_arguments.Goals as goal

pub loop-e-preserved : goal.loop-e-preserved
loop-e-preserved c =
    ap (written (arguments (drop (c.loop-e.e-index + 1) c.args.es.now))) c.in_ok-write_expression.ensures
    ∙ sym (written_more arguments expression (λ x xs. refl) c.args.es.now c.loop-e.e-index c.e-item.result
    c.loop-e.out.items c.loop-e-test.true c.e-item.is)
    ∙ c.loop-e.invariant

pub returns : goal.returns
returns c =
    written_done arguments refl c.args.es.now c.loop-e.e-index c.loop-e.out.items (omega arith) ∙ c.loop-e.invariant
