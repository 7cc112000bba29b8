-- The inputs of a source are its model files and its function files.
use Rattle.flame_load.proofs.AllInputs.{all_inputs_are_read}
use Rattle.flame_load.proofs.laws.all_inputs.Goals as goal

pub returns : goal.returns
returns c = all_inputs_are_read
