use Rattle.std.proofs.Common.{◌∙◌, sym}
use Rattle.flame_nest.proofs.Unfolding.{flat_variables-nil, flat-more}
use Rattle.flame_nest.proofs.kinds.Kinds.flat.Goals as goal

pub loop-variable-init : goal.loop-variable-init
loop-variable-init c = c.new-flat.ensures.items ∙ sym (flat_variables-nil c.args.self.now)

pub loop-variable-preserved : goal.loop-variable-preserved
loop-variable-preserved c =
    flat-more
    c.args.self.now
    c.args.variables.now
    c.loop-variable.variable-index
    c.variable-item.result
    c.variable-item.result
    _
    _
    c.loop-variable-test.true
    c.variable-item.is
    c.loop-variable.invariant
    c.in_ok-put.ensures
