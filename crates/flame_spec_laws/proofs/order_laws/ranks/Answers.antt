-- Ranks and places.
use Rattle.flame_spec_laws.proofs.Places.{ranks_rise, order_has, rank_is_place, left_over_rank}
use Rattle.flame_spec_laws.proofs.order_laws.ranks.Goals as goal

pub returns-clause-rise : goal.returns-clause-rise
returns-clause-rise c = ranks_rise

pub returns-clause-at_rank : goal.returns-clause-at_rank
returns-clause-at_rank c = order_has

pub returns-clause-place : goal.returns-clause-place
returns-clause-place c = rank_is_place

pub returns-clause-left : goal.returns-clause-left
returns-clause-left c = left_over_rank
