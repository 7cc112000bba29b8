use Rattle.flame_nest.proofs.PlainForms.{plain_flat}
use Rattle.flame_nest.proofs.PlainFaults.{plain_none}
use Rattle.flame_nest.proofs.laws.plain_files.Goals as goal

pub returns-clause-flat : goal.returns-clause-flat
returns-clause-flat c = plain_flat

pub returns-clause-faultless : goal.returns-clause-faultless
returns-clause-faultless c = plain_none
