use Rattle.flame_compile.proofs.LabelledBodies.{emitted_valid}
use Rattle.flame_compile.proofs.laws.codes_are_valid.Goals as goal

pub returns : goal.returns
returns c = emitted_valid
