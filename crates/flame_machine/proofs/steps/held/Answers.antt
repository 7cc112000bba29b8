use Rattle.std.proofs.Common.{rules}
use Rattle.flame_machine.proofs.steps.held.Goals as goal

pub returns-in-Err-clause-does : goal.returns-in-Err-clause-does
returns-in-Err-clause-does c = search rules
