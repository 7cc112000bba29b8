use Rattle.flame_spec_laws.proofs.Choosing.{choice_is_first, first_is_chosen, no_choice_where_none, takers_keep_counts}
use Rattle.flame_spec_laws.proofs.view_laws.choices.Goals as goal

pub returns-clause-chosen : goal.returns-clause-chosen
returns-clause-chosen c = choice_is_first

pub returns-clause-first : goal.returns-clause-first
returns-clause-first c = first_is_chosen

pub returns-clause-none : goal.returns-clause-none
returns-clause-none c = no_choice_where_none

pub returns-clause-takers : goal.returns-clause-takers
returns-clause-takers c = takers_keep_counts
