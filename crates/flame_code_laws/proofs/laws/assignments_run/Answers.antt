-- The code of assignments comes to what they come to.
use Rattle.flame_code_laws.proofs.FaithfulStores.{assignment_comes}
use Rattle.flame_code_laws.proofs.laws.assignments_run.Goals as goal

pub returns : goal.returns
returns c = λ run f sound. assignment_comes run f sound
