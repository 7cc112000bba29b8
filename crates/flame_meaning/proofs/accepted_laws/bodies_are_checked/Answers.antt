-- The bodies that run are checked.
use Rattle.flame_meaning.proofs.Checked.{function_checked, helper_checked}
use Rattle.flame_meaning.proofs.accepted_laws.bodies_are_checked.Goals as goal

pub returns-clause-functions : goal.returns-clause-functions
returns-clause-functions c = λ model units place n none listed. function_checked model units none place n listed

pub returns-clause-helpers : goal.returns-clause-helpers
returns-clause-helpers c = λ model units d h none listed. helper_checked model units none d h listed
