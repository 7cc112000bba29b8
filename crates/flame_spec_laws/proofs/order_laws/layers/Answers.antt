-- Layers are heights above what stands before.
use Rattle.flame_spec.proofs.Heights.{layer_above, layer_rises, layer_has_below}
use Rattle.flame_spec_laws.proofs.order_laws.layers.Goals as goal

pub returns-clause-above : goal.returns-clause-above
returns-clause-above c = layer_above

pub returns-clause-rise : goal.returns-clause-rise
returns-clause-rise c = layer_rises

pub returns-clause-no_gap : goal.returns-clause-no_gap
returns-clause-no_gap c = layer_has_below
