use Rattle.flame_pool.proofs.AsChosen.{choice_is_first_out, first_is_chosen_place, place_is_choice, takers_by_place, whose_are_takers}
use Rattle.flame_pool.proofs.laws.choices_are_as_written.Goals as goal

pub returns-clause-first : goal.returns-clause-first
returns-clause-first c = choice_is_first_out

pub returns-clause-place : goal.returns-clause-place
returns-clause-place c = place_is_choice

pub returns-clause-takers : goal.returns-clause-takers
returns-clause-takers c = whose_are_takers

pub returns-clause-first_place : goal.returns-clause-first_place
returns-clause-first_place c = first_is_chosen_place

pub returns-clause-takers_by_place : goal.returns-clause-takers_by_place
returns-clause-takers_by_place c = takers_by_place
