use Rattle.flame_world.proofs.Standstills.{nobody_changes_nothing, no_functions_no_change}
use Rattle.flame_world.proofs.laws.where_nothing_happens.Goals as goal

pub returns-clause-nobody : goal.returns-clause-nobody
returns-clause-nobody c = nobody_changes_nothing

pub returns-clause-none : goal.returns-clause-none
returns-clause-none c = no_functions_no_change
