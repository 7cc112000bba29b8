use Rattle.flame_sense.proofs.Widths.{this_named, no_named}
use Rattle.flame_sense.proofs.words.column_of.Goals as goal

pub returns-then-eq : goal.returns-then-eq
returns-then-eq c =
    this_named c.args.name.now c.args.variables.now c.loop-variable.variable-index
    c.variable-item.result c.loop-variable.at _ c.loop-variable-test.true c.variable-item.is (cc) c.loop-variable.invariant.fits c.loop-variable.invariant.column

pub returns : goal.returns
returns c =
    no_named c.args.name.now c.args.variables.now c.loop-variable.variable-index
    c.loop-variable.at _ c.loop-variable-test.false c.loop-variable.invariant.fits c.loop-variable.invariant.column
