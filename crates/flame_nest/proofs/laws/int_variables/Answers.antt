use Rattle.flame_nest.proofs.BasedTypes.{messages_int, agents_int}
use Rattle.flame_nest.proofs.laws.int_variables.Goals as goal

pub returns-clause-messages : goal.returns-clause-messages
returns-clause-messages c = messages_int

pub returns-clause-memories : goal.returns-clause-memories
returns-clause-memories c = agents_int
