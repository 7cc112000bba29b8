-- Nothing is read behind the first refusal.
use Rattle.flame_load.proofs.FrontInputs.{inputs_are_a_front}
use Rattle.flame_load.proofs.laws.front_inputs.Goals as goal

pub returns : goal.returns
returns c = inputs_are_a_front
