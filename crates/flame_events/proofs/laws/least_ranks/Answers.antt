use Rattle.flame_events.proofs.LeastRanks.{lower_ranks_are_wanted, least_rank_has_first_fault}
use Rattle.flame_events.proofs.laws.least_ranks.Goals as goal

pub returns-clause-wanted : goal.returns-clause-wanted
returns-clause-wanted c = lower_ranks_are_wanted

pub returns-clause-first : goal.returns-clause-first
returns-clause-first c = least_rank_has_first_fault
