-- A plan, names and function files without faults make a source accepted.
use Rattle.flame_program.proofs.Acceptances.{planned-are-accepted}
use Rattle.flame_program.proofs.laws.planned_are_accepted.Goals as goal

pub returns : goal.returns
returns c = planned-are-accepted
