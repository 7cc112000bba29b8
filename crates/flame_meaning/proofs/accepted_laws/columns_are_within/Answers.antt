-- Columns lie within rows.
use Rattle.flame_meaning.proofs.WidthsKept.{variable_within, element_within, memory_keeps_length}
use Rattle.flame_meaning.proofs.accepted_laws.columns_are_within.Goals as goal

pub returns-clause-variables : goal.returns-clause-variables
returns-clause-variables c = variable_within

pub returns-clause-elements : goal.returns-clause-elements
returns-clause-elements c = element_within

pub returns-clause-memories : goal.returns-clause-memories
returns-clause-memories c = memory_keeps_length
