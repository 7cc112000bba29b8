-- Nothing counts but what is read.
use Rattle.flame_load.proofs.SameInputs.{only_inputs_count}
use Rattle.flame_load.proofs.laws.only_inputs.Goals as goal

pub returns : goal.returns
returns c = only_inputs_count
