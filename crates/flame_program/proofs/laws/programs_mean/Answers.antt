-- The code of each function means its outcome.
use Rattle.flame_program.proofs.ProgramOutcomes.{programs-mean}
use Rattle.flame_program.proofs.laws.programs_mean.Goals as goal

pub returns : goal.returns
returns c = programs-mean
