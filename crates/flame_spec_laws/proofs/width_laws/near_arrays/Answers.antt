-- Arrays behind which a row would be too wide are faults.
use Rattle.flame_spec_laws.proofs.Near.{memory_near, message_near}
use Rattle.flame_spec_laws.proofs.width_laws.near_arrays.Goals as goal

pub returns-clause-memories : goal.returns-clause-memories
returns-clause-memories c = memory_near

pub returns-clause-messages : goal.returns-clause-messages
returns-clause-messages c = message_near
