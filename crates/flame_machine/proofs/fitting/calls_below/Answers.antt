use Rattle.std.proofs.Common.{rules}
use Rattle.flame_machine.proofs.fitting.calls_below.Goals as goal

pub returns-in-Call : goal.returns-in-Call
returns-in-Call c = search rules
