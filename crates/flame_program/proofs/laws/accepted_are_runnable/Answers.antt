-- Acceptance gives what runs need.
use Rattle.flame_program.proofs.Acceptances.{accepted-are-runnable}
use Rattle.flame_program.proofs.laws.accepted_are_runnable.Goals as goal

pub returns : goal.returns
returns c = accepted-are-runnable
