use Rattle.std.proofs.Common.{arith}
use Rattle.flame_spec.proofs.VariableWidths.{width_more}
use Rattle.flame_lookup.proofs.table.width.Goals as goal

pub loop-variable-preserved : goal.loop-variable-preserved
loop-variable-preserved c =
    let more = width_more c.args.variables.now c.loop-variable.variable-index c.variable-item.result c.loop-variable-test.true c.variable-item.is in
    omega (arith, more, c.in-Some.ensures, c.width.ensures, c.loop-variable.invariant)
