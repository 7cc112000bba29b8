use Rattle.std.proofs.Common.{sym, ap}
use Rattle.std.specs.Prelude.{min}
use Rattle.flame_spec.specs.Columns.{width}
use Rattle.flame_nest.proofs.Unfolding.{flat_variables-nil, capped_flat-more}
use Rattle.flame_nest.proofs.kinds.Kinds.width.Goals as goal

pub loop-variable-init : goal.loop-variable-init
loop-variable-init c = ap (λ l. min (width l) 4097) (sym (flat_variables-nil c.args.self.now))

pub loop-variable-preserved : goal.loop-variable-preserved
loop-variable-preserved c =
    capped_flat-more
    c.args.self.now
    c.args.variables.now
    c.loop-variable.variable-index
    c.variable-item.result
    c.variable-item.result
    _
    _
    _
    c.loop-variable-test.true
    c.variable-item.is
    c.loop-variable.invariant
    c.variable_width.ensures
    c.capped-columns.ensures
