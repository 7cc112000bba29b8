-- Rows are as wide as they have variables.
use Rattle.flame_spec_laws.proofs.Narrow.{width-length, memory_narrow, message_narrow}
use Rattle.flame_spec_laws.proofs.width_laws.narrow_rows.Goals as goal

pub returns-clause-counted : goal.returns-clause-counted
returns-clause-counted c = width-length

pub returns-clause-memories : goal.returns-clause-memories
returns-clause-memories c = memory_narrow

pub returns-clause-messages : goal.returns-clause-messages
returns-clause-messages c = message_narrow
